-- Laws of a walk over the first n places of an array: what stands from place i on is what stands at i, then what stands from i + 1 on.
-- The walk ends where no place is left. Assumes nothing.
use Rattle.std.specs.Prelude.{Some, None}
use Prim.Native.Nat.{ℕ, ◌+◌, ◌<◌, ◌≤◌}
use mathlib.Core.Path.{◌≡◌}
use mathlib.Core.Bool.{Bool, true, false, ◌&&◌}
use mathlib.Core.List.{List, [], ◌∷◌, ◌++◌}
use native.Mathlib.Omega.{arith}
use native.Mathlib.Numerals.{add-one}
use lib.ListN.{length, get_or, take, drop, length-take, drop_of_length-le}
use lib.Seq.{drop-cons, take-suc, get_or-take}
use Rattle.basics.specs.Lists.{total, all, find, find_after}

-- the kept list and the array agree below its length
pub kept : {A : Type 0} (xs : List A) (n i : ℕ) (d : A) → i < length (take n xs) → get_or (take n xs) i d ≡ get_or xs i d
kept xs n i d h = get_or-take n xs i d (omega (arith, rw length-take at h))

-- ---- one step: the element at i

module _ {A : Type 0} (xs : List A) (n i : ℕ) (d : A) (here : i < length (take n xs)) where
  pub rest_cons : drop i (take n xs) ≡ get_or xs i d ∷ drop (i + 1) (take n xs)
  rest_cons = rw (add-one i, drop-cons (take n xs) i d here, kept xs n i d here)

  pub front_snoc : take (i + 1) (take n xs) ≡ take i (take n xs) ++ (get_or xs i d ∷ [])
  front_snoc = rw (add-one i, take-suc (take n xs) i d here, kept xs n i d here)

  pub all-next : (ok : A → Bool) → all ok (drop i (take n xs)) ≡ (ok (get_or xs i d) && all ok (drop (i + 1) (take n xs)))
  all-next ok = rw rest_cons

  pub total-next : (f : A → ℕ) → total f (drop i (take n xs)) ≡ f (get_or xs i d) + total f (drop (i + 1) (take n xs))
  total-next f = rw rest_cons

  pub find-here : (ok : A → Bool) → ok (get_or xs i d) ≡ true → find ok (drop i (take n xs)) i ≡ Some i
  find-here ok e = rw (rest_cons, e)

  pub find-next : (ok : A → Bool) → ok (get_or xs i d) ≡ false → find ok (drop i (take n xs)) i ≡ find ok (drop (i + 1) (take n xs)) (i + 1)
  find-next ok e = rw (rest_cons, e)

  pub find_after-here : (ok : List A → A → Bool) → ok (take i (take n xs)) (get_or xs i d) ≡ true
      → find_after ok (take i (take n xs)) (drop i (take n xs)) i ≡ Some i
  find_after-here ok e = rw (rest_cons, e)

  pub find_after-next : (ok : List A → A → Bool) → ok (take i (take n xs)) (get_or xs i d) ≡ false
      → find_after ok (take i (take n xs)) (drop i (take n xs)) i
      ≡ find_after ok (take (i + 1) (take n xs)) (drop (i + 1) (take n xs)) (i + 1)
  find_after-next ok e = rw (front_snoc, rest_cons, e)

-- ---- the end

module _ {A : Type 0} (l : List A) (i : ℕ) (past : length l ≤ i) where
  pub rest-none : drop i l ≡ []
  rest-none = drop_of_length-le l {i = i} past

  pub all_end : (ok : A → Bool) → all ok (drop i l) ≡ true
  all_end ok = rw rest-none

  pub total-end : (f : A → ℕ) → total f (drop i l) ≡ 0
  total-end f = rw rest-none

  pub find-end : (ok : A → Bool) → find ok (drop i l) i ≡ None
  find-end ok = rw rest-none

  pub find_after-end : (ok : List A → A → Bool) (older : List A) → find_after ok older (drop i l) i ≡ None
  find_after-end ok older = rw rest-none
