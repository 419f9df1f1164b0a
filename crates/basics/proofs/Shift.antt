-- Laws of a list that is kept in the first n places of an array: one more at its end, and a run of it taken out by moving the later ones down.
-- They hold of any elements. Assumes nothing.
use Prim.Native.Nat.{ℕ, zero, suc, ◌+◌, ◌-◌, ◌<◌, ◌≤◌}
use mathlib.Core.Path.{◌≡◌, sym, ◌∙◌}
use mathlib.Core.List.{List, [], ◌∷◌, ◌++◌}
use native.Mathlib.Omega.{arith}
use native.Mathlib.Numerals.{add-one}
use native.Mathlib.Nat.{sub-zero, not-suc-le-zero, le_of_suc-le-suc}
use lib.ListN.{length, get_or, take, drop, set, length-drop}
use lib.Seq.{paste, paste-zero, paste-suc, length-paste, take-paste, get_or-drop, take-suc-set, take-take, take-nil}

module _ {A : Type 0} where
  -- the k elements from place b on, copied to place a and after
  abbrev pub moved : List A → ℕ → ℕ → ℕ → List A
  moved xs a b k = paste xs a (drop b xs) k

  -- ---- the loop that moves them

  pub moved_none : (xs : List A) (a b : ℕ) → xs ≡ moved xs a b 0
  moved_none xs a b = paste-zero xs a (drop b xs)

  -- one more: the store goes to place `to` and takes what stood at place `from`
  pub moved_more : (xs : List A) (a b k to from : ℕ) (d : A) → to ≡ a + k → from ≡ b + k → a ≤ b → from < length xs
      → set (moved xs a b k) to (get_or xs from d) ≡ moved xs a b (k + 1)
  moved_more xs a b k to from d p q le h =
      let hs : k < length (drop b xs) = rw length-drop (omega arith) in
      let hd : a + k < length xs = omega arith in
      rw (p, q, ← get_or-drop b xs k d, add-one k) (paste-suc xs a (drop b xs) k d hd hs)

  -- ---- what is kept

  pub take-pushed : (xs : List A) (n : ℕ) (x : A) → n < length xs → take (n + 1) (set xs n x) ≡ take n xs ++ (x ∷ [])
  take-pushed xs n x h = rw (add-one n) (take-suc-set xs n x h)

  pub drop-take : (i n : ℕ) (xs : List A) → i ≤ n → drop i (take n xs) ≡ take (n - i) (drop i xs)
  drop-take zero n xs h = rw (sub-zero n)
  drop-take (suc i) zero xs h = absurd (not-suc-le-zero h)
  drop-take (suc i) (suc n) [] h = sym (take-nil (suc n - suc i))
  drop-take (suc i) (suc n) (x ∷ xs) h =
      let e : suc n - suc i ≡ n - i = omega arith in
      rw e (drop-take i n xs (le_of_suc-le-suc h))

  -- of n elements, those from place a up to place b are taken out
  module _ (xs : List A) (a b n : ℕ) (order : a ≤ b) (bound : b ≤ n) (long : n ≤ length xs) where
    pub take-moved : take (n - (b - a)) (moved xs a b (n - b)) ≡ take a (take n xs) ++ drop b (take n xs)
    take-moved =
        let e : n - (b - a) ≡ a + (n - b) = omega arith in
        let h : a ≤ length xs = omega arith in
        let k : n - b ≤ length (drop b xs) = rw length-drop (omega arith) in
        rw e (take-paste xs a (drop b xs) (n - b) h k ∙ rw (take-take a n xs (omega arith), drop-take b n xs bound))

    pub length_moved : length (moved xs a b (n - b)) ≡ length xs
    length_moved =
        let h : a + (n - b) ≤ length xs = omega arith in
        let k : n - b ≤ length (drop b xs) = rw length-drop (omega arith) in
        length-paste xs a (drop b xs) (n - b) h k
