-- Laws of a test that is asked of many: of each number below a bound, and of the elements or parts of a list up to the first that fails.
-- Assumes nothing.
use Rattle.std.specs.Prelude.{if◌then◌else◌}
use Prim.Native.Nat.{ℕ, zero, suc, ◌+◌, ◌-◌, ◌*◌, ◌≤◌, ◌<◌}
use mathlib.Core.Path.{◌≡◌, refl, sym, ap, ◌∙◌}
use mathlib.Core.Bool.{Bool, true, false, ◌&&◌}
use mathlib.Core.List.{List, [], ◌∷◌, map}
use mathlib.Core.Logic.{⊎_elim}
use native.Mathlib.Nat.{not-suc-le-zero, le_of_suc-le-suc, eq-or-lt_of_le, mul-suc, mul-zero, add_comm}
use native.Mathlib.Numerals.{add-one}
use Rattle.std.proofs.Common.{add-zero, zero-add}
use Rattle.std.specs.List.{list_all, range_with_len}
use Rattle.std.specs.Option.{MatchOption, unwrap_or}
use Rattle.std.specs.Prelude.{Option, Some, None}
use native.Mathlib.Omega.{arith}
use lib.Dec.{ltb}
use borrow.Author.Tests.{ltb-true, ltb-false}
use lib.ListN.{length, take, drop}
use lib.Seq.{drop-drop}
use Rattle.basics.specs.Each.{each, first_not}
use Rattle.basics.specs.Parts.{part, cut}
use Rattle.basics.proofs.Branches.{and_assoc, and_left, and_right, and-true}

-- A choice by what a test says, and by the order of two numbers.
pub by_bool : {X : Type 0} (t : Bool) → (t ≡ true → X) → (t ≡ false → X) → X
by_bool true f g = f refl
by_bool false f g = g refl

pub by_order_lem : {X : Type 0} (a b : ℕ) → (a < b → X) → (b ≤ a → X) → X
by_order_lem a b f g = by_bool (ltb a b) (λ h. f (ltb-true a b h)) (λ h. g (ltb-false a b h))

-- a test of one number more
pub each_more : (n : ℕ) (f : ℕ → Bool) → each (n + 1) f ≡ (each n f && f n)
unfolding each
each_more n f = rw add-one

-- asked in turn, from the first number on
pub each_range : (n : ℕ) (f : ℕ → Bool) → list_all f (range_with_len 0 n) ≡ each n f
unfolding each
each_range zero f = refl
each_range (suc n) f = last 0 n ∙ rw (each_range n f, zero-add)
  where
    last : (a m : ℕ) → list_all f (range_with_len a (suc m)) ≡ (list_all f (range_with_len a m) && f (a + m))
    last a zero = rw add-zero (and-true (f a))
    last a (suc m) =
        let e : a + 1 + m ≡ a + suc m = omega arith in
        rw (last (a + 1) m, e) (sym (and_assoc (f a) (list_all f (range_with_len (a + 1) m)) (f (a + suc m))))

-- what holds of each holds of any
pub each_at : (n : ℕ) (f : ℕ → Bool) (i : ℕ) → each n f ≡ true → i < n → f i ≡ true
unfolding each
each_at zero f i h k = absurd (not-suc-le-zero k)
each_at (suc n) f i h k =
    ⊎_elim
    (λ (e : i ≡ n). rw e (and_right (each n f) (f n) h))
    (λ (j : i < n). each_at n f i (and_left (each n f) (f n) h) j)
    (eq-or-lt_of_le (le_of_suc-le-suc k))

-- no more pass than there are
pub first_most : {A : Type 0} (f : A → Bool) (l : List A) → first_not f l ≤ length l
unfolding first_not
first_most f [] = omega arith
first_most f (x ∷ xs) = by_bool (f x) (λ t. let h = first_most f xs in rw t (omega arith)) (λ t. rw t (omega arith))

-- a test that all pass
pub first_none : {A : Type 0} (l : List A) → first_not (λ x. true) l ≡ length l
unfolding first_not
first_none [] = refl
first_none (x ∷ xs) = ap suc (first_none xs)

-- the first passes, and the others are counted
pub passes : (t : Bool) (m n : ℕ) → (if t then suc m else 0) ≡ suc n → (t ≡ true) × (m ≡ n)
passes true m n h = (refl, omega arith)
passes false m n h = absurd (omega arith)

-- two tests that say the same
pub first_same : {A : Type 0} (f g : A → Bool) → ((x : A) → f x ≡ g x) → (l : List A) → first_not f l ≡ first_not g l
unfolding first_not
first_same f g h [] = refl
first_same f g h (x ∷ xs) = rw (h x, first_same f g h xs)

-- where all pass a test, all pass a weaker one
pub first_weaker : {A : Type 0} (f g : A → Bool) → ((x : A) → f x ≡ true → g x ≡ true) → (l : List A)
    → first_not f l ≡ length l → first_not g l ≡ length l
unfolding first_not
first_weaker f g h [] e = refl
first_weaker f g h (x ∷ xs) e =
    let p = passes (f x) (first_not f xs) (length xs) e in
    rw (h x p.0, first_weaker f g h xs p.1)

pub first_map : {A B : Type 0} (f : B → Bool) (g : A → B) (l : List A) → first_not f (map g l) ≡ first_not (λ x. f (g x)) l
unfolding first_not
first_map f g [] = refl
first_map f g (x ∷ xs) = rw (first_map f g xs)

-- where none fails, each part passes
pub first_at : {A : Type 0} (f : List A → Bool) (w n : ℕ) (l : List A) (i : ℕ)
    → first_not f (cut w n l) ≡ n → i < n → f (part l (w * i) w) ≡ true
unfolding cut first_not
first_at f w zero l i h k = absurd (not-suc-le-zero k)
first_at f w (suc n) l zero h k = rw mul-zero (passes (f (take w l)) (first_not f (cut w n (drop w l))) n h).0
first_at f w (suc n) l (suc i) h k =
    rw (mul-suc, add_comm (w * i) w, ← drop-drop (w * i) w l)
    (first_at f w n (drop w l) i (passes (f (take w l)) (first_not f (cut w n (drop w l))) n h).1 (le_of_suc-le-suc k))

-- A walk over the parts of a list that looks for the first that fails: what it will find, once it is at part i.
module _ {A : Type 0} (f : List A → Bool) (w : ℕ) (l : List A) (n : ℕ) where
  abbrev pub first_from : ℕ → ℕ
  first_from i = i + first_not f (cut w (n - i) (drop (w * i) l))

  pub first_start : first_from 0 ≡ first_not f (cut w n l)
  first_start = let e : n - 0 ≡ n = omega arith in rw (e, mul-zero) (omega arith)

  open_at : (i : ℕ) → i < n
      → first_from i ≡ i + (if f (part l (w * i) w) then suc (first_not f (cut w (n - (i + 1)) (drop (w * (i + 1)) l))) else 0)
  unfolding cut first_not
  open_at i h =
      let e : n - i ≡ suc (n - (i + 1)) = omega arith in
      rw (e, drop-drop, add-one i, mul-suc)

  pub first_next : (i : ℕ) → i < n → f (part l (w * i) w) ≡ true → first_from i ≡ first_from (i + 1)
  first_next i h t = open_at i h ∙ rw t (omega arith)

  pub first_here : (i : ℕ) → i < n → f (part l (w * i) w) ≡ false → first_from i ≡ i
  first_here i h t = open_at i h ∙ rw t (omega arith)

  pub first_end : first_from n ≡ n
  unfolding cut first_not
  first_end = let e : n - n ≡ 0 = omega arith in rw e (omega arith)

  walk : (i : ℕ) → i ≤ n → ((k : ℕ) → k < i → f (part l (w * k) w) ≡ true) → first_from 0 ≡ first_from i
  walk zero h t = refl
  walk (suc i) h t =
      let step : first_from i ≡ first_from (suc i) = rw add-one at (first_next i (omega arith) (t i (omega arith))) in
      walk i (omega arith) (λ k m. t k (omega arith)) ∙ step

  -- what a search over the parts' indices found
  pub first_found : (r : Option ℕ) → MatchOption r ((k : ℕ) → 0 ≤ k → k < n → f (part l (w * k) w) ≡ true)
      (λ i. (0 ≤ i) × (i < n) × (f (part l (w * i) w) ≡ false) × ((k : ℕ) → 0 ≤ k → k < i → f (part l (w * k) w) ≡ true))
      → unwrap_or r n ≡ first_not f (cut w n l)
  first_found None h = sym first_end ∙ sym (walk n (omega arith) (λ k m. h k (omega arith) m)) ∙ first_start
  first_found (Some i) h = sym (first_here i h.1 h.2) ∙ sym (walk i (omega (arith, h.1)) (λ k m. h.3 k (omega arith) m)) ∙ first_start
