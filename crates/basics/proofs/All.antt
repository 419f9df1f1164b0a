-- Laws of a test of every element of a list: of two runs, of one more at the end, of a part, with one taken out, and at one place.
-- Assumes nothing.
use Prim.Native.Nat.{ℕ, zero, suc, ◌≤◌, ◌<◌}
use mathlib.Core.Path.{◌≡◌, refl, sym, ap, ◌∙◌}
use mathlib.Core.Bool.{Bool, true, ◌&&◌}
use mathlib.Core.List.{List, [], ◌∷◌, ◌++◌}
use native.Mathlib.Nat.{not-suc-le-zero, le_of_suc-le-suc}
use lib.ListN.{length, get_or, take, drop, take-append-drop, get_or-eq_default}
use Rattle.basics.specs.Lists.{all}
use Rattle.basics.proofs.Branches.{and_left, and_right, and-true, and_assoc}
use Rattle.basics.proofs.Each.{by_order_lem}

module _ {A : Type 0} (ok : A → Bool) where
  -- ---- two runs, and one more at the end

  pub all_append : (a b : List A) → all ok (a ++ b) ≡ (all ok a && all ok b)
  all_append [] b = refl
  all_append (x ∷ a) b = rw (all_append a b) (sym (and_assoc (ok x) (all ok a) (all ok b)))

  pub all_snoc : (l : List A) (x : A) → all ok (l ++ (x ∷ [])) ≡ (all ok l && ok x)
  all_snoc l x = rw (all_append l (x ∷ []), and-true (ok x))

  -- ---- a part of those that all pass

  pub all_take : (n : ℕ) (l : List A) → all ok l ≡ true → all ok (take n l) ≡ true
  all_take n l h = and_left (all ok (take n l)) (all ok (drop n l)) (sym (all_append (take n l) (drop n l)) ∙ ap (all ok) (take-append-drop n l) ∙ h)

  pub all_drop : (n : ℕ) (l : List A) → all ok l ≡ true → all ok (drop n l) ≡ true
  all_drop n l h = and_right (all ok (take n l)) (all ok (drop n l)) (sym (all_append (take n l) (drop n l)) ∙ ap (all ok) (take-append-drop n l) ∙ h)

  -- those from place n up to place m are taken out
  pub all_without : (n m : ℕ) (l : List A) → all ok l ≡ true → all ok (take n l ++ drop m l) ≡ true
  all_without n m l h = rw (all_append (take n l) (drop m l), all_take n l h, all_drop m l h)

  -- ---- the one at a place

  pub all-at : (l : List A) (i : ℕ) (d : A) → i < length l → all ok l ≡ true → ok (get_or l i d) ≡ true
  all-at [] i d h k = absurd (not-suc-le-zero h)
  all-at (x ∷ l) zero d h k = and_left (ok x) (all ok l) k
  all-at (x ∷ l) (suc i) d h k = all-at l i d (le_of_suc-le-suc h) (and_right (ok x) (all ok l) k)

  -- any place, where what stands past the end passes too
  pub all_past : (l : List A) (i : ℕ) (d : A) → ok d ≡ true → all ok l ≡ true → ok (get_or l i d) ≡ true
  all_past l i d p k =
      by_order_lem i (length l)
      (λ h. all-at l i d h k)
      (λ (h : length l ≤ i). rw (get_or-eq_default l d h) p)

-- where all pass a test, all pass a weaker one
pub all_weaker : {A : Type 0} (f g : A → Bool) → ((x : A) → f x ≡ true → g x ≡ true) → (l : List A) → all f l ≡ true → all g l ≡ true
all_weaker f g h [] e = refl
all_weaker f g h (x ∷ l) e = rw (h x (and_left (f x) (all f l) e), all_weaker f g h l (and_right (f x) (all f l) e))
