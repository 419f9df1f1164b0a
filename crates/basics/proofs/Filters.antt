-- Laws of the elements that pass a test: of two runs, of one more at the end, of one taken out, of two tests, and of their sums.
-- Assumes nothing.
use Rattle.std.specs.Prelude.{if◌then◌else◌}
use Prim.Native.Nat.{ℕ, ◌+◌, ◌<◌, ◌≤◌}
use mathlib.Core.Path.{◌≡◌, refl, sym, ap, ◌∙◌}
use mathlib.Core.Bool.{Bool, true, false, ◌&&◌, not}
use mathlib.Core.List.{List, [], ◌∷◌, ◌++◌, append-nil}
use native.Mathlib.Omega.{arith}
use native.Mathlib.Numerals.{add-one}
use native.Mathlib.Nat.{zero-add, le_refl}
use lib.ListN.{length, get_or, take, drop, length-append, take-append-drop}
use lib.Seq.{split_at, drop-drop}
use Rattle.basics.specs.Lists.{total, all, filter}
use Rattle.basics.proofs.Branches.{by_test}

module _ {A : Type 0} (ok : A → Bool) where
  pub filter_in : (x : A) (xs : List A) → ok x ≡ true → filter ok (x ∷ xs) ≡ x ∷ filter ok xs
  filter_in x xs e = rw e

  pub filter_out : (x : A) (xs : List A) → ok x ≡ false → filter ok (x ∷ xs) ≡ filter ok xs
  filter_out x xs e = rw e

  pub filter-append : (a b : List A) → filter ok (a ++ b) ≡ filter ok a ++ filter ok b
  filter-append [] b = refl
  filter-append (x ∷ a) b = go (ok x) refl (filter-append a b)
    where
      go : (t : Bool) → ok x ≡ t → filter ok (a ++ b) ≡ filter ok a ++ filter ok b → filter ok (x ∷ a ++ b) ≡ filter ok (x ∷ a) ++ filter ok b
      go true e h = rw (e, h)
      go false e h = rw (e, h)

  -- one more at the end
  module _ (l : List A) (x : A) where
    pub filter_snoc_in : ok x ≡ true → filter ok (l ++ (x ∷ [])) ≡ filter ok l ++ (x ∷ [])
    filter_snoc_in e = rw (filter-append l (x ∷ []), e)

    pub filter_snoc_out : ok x ≡ false → filter ok (l ++ (x ∷ [])) ≡ filter ok l
    filter_snoc_out e = rw (filter-append l (x ∷ []), e, append-nil)

  -- where none passes nothing is left
  pub filter_none : (l : List A) → all (λ x. not (ok x)) l ≡ true → filter ok l ≡ []
  filter_none [] h = refl
  filter_none (x ∷ l) h = go (ok x) refl h (filter_none l)
    where
      go : (t : Bool) → ok x ≡ t → (not t && all (λ y. not (ok y)) l) ≡ true → (all (λ y. not (ok y)) l ≡ true → filter ok l ≡ [])
          → filter ok (x ∷ l) ≡ []
      go true e h f = cc
      go false e h f = rw e (f h)

  -- ---- the element at i taken out

  module _ (l : List A) (i : ℕ) (d : A) (here : i < length l) where
    parts : l ≡ take i l ++ get_or l i d ∷ drop (i + 1) l
    parts = rw (add-one i) (split_at l i d here)

    -- the first that passes leaves the front
    pub filter_first : ok (get_or l i d) ≡ true → all (λ x. not (ok x)) (take i l) ≡ true
        → filter ok l ≡ get_or l i d ∷ filter ok (take i l ++ drop (i + 1) l)
    filter_first e h = ap (filter ok) parts ∙ simp (filter-append, filter_none (take i l) h, e)

    -- one that does not pass leaves all as it was
    pub filter-other : ok (get_or l i d) ≡ false → filter ok (take i l ++ drop (i + 1) l) ≡ filter ok l
    filter-other e = sym (ap (filter ok) parts ∙ simp (filter-append, e))

  -- no more pass where the first is left out, or the one at n is taken out
  count_tail : (l : List A) → length (filter ok (drop 1 l)) ≤ length (filter ok l)
  count_tail [] = le_refl 0
  count_tail (x ∷ l) = by_test (λ (m : List A). length (filter ok l) ≤ length m) (ok x) (λ t. omega arith) (λ t. le_refl (length (filter ok l)))

  pub count-without : (n : ℕ) (l : List A) → length (filter ok (take n l ++ drop (n + 1) l)) ≤ length (filter ok l)
  count-without n l =
      let whole : length (filter ok l) ≡ length (filter ok (take n l)) + length (filter ok (drop n l)) =
      sym (ap (λ m. length (filter ok m)) (take-append-drop n l)) ∙ rw (filter-append (take n l) (drop n l), length-append) in
      rw (filter-append (take n l) (drop (n + 1) l), length-append) (omega (arith, whole, count_tail (drop n l), ap (λ m. length (filter ok m)) (drop-drop 1 n l)))

  -- ---- sums over those that pass

  pub total-filter : (f : A → ℕ) (l : List A) → total f (filter ok l) ≡ total (λ x. if ok x then f x else 0) l
  total-filter f [] = refl
  total-filter f (x ∷ l) = go (ok x) refl (total-filter f l)
    where
      go : (t : Bool) → ok x ≡ t → total f (filter ok l) ≡ total (λ y. if ok y then f y else 0) l
          → total f (filter ok (x ∷ l)) ≡ total (λ y. if ok y then f y else 0) (x ∷ l)
      go true e h = rw (e, h)
      go false e h = rw (e, h, zero-add)

-- what passes two tests, one after the other
pub filter-both : {A : Type 0} (both one two : A → Bool) → ((x : A) → both x ≡ (one x && two x)) → (l : List A) → filter both l ≡ filter two (filter one l)
filter-both both one two h [] = refl
filter-both both one two h (x ∷ l) = go (one x) refl (two x) refl (filter-both both one two h l)
  where
    go : (s : Bool) → one x ≡ s → (t : Bool) → two x ≡ t → filter both l ≡ filter two (filter one l) → filter both (x ∷ l) ≡ filter two (filter one (x ∷ l))
    go true a true b e = rw (h x, a, b, e)
    go true a false b e = rw (h x, a, b, e)
    go false a t b e = rw (h x, a, e)

-- a count is a sum of ones
pub length-total : {A : Type 0} (l : List A) → length l ≡ total (λ x. 1) l
length-total [] = refl
length-total (x ∷ l) = omega (arith, length-total l)
