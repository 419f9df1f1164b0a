-- Laws of `array::from_fn`: where its closure computes a function of the index, the array is that function's values. And what is read
-- from each part of a list is such a row of values.
-- Assumes nothing.
use Rattle.std.proofs.Common.{add-zero}
use Rattle.std.proofs.lemmas.List.FromFn.{fill_by_all, map-range_with_len_more}
use Rattle.std.specs.Array.{IsFromFnResult, IsFromFnResultFrom}
use Rattle.std.specs.Fn.{Called}
use Rattle.std.specs.List.{range_with_len}
use Prim.Native.Nat.{ℕ, zero, suc, ◌+◌, ◌*◌, ◌<◌}
use denote.Param.Members.{Mut}
use mathlib.Core.Path.{◌≡◌, refl, subst, ap, ◌∙◌}
use mathlib.Core.List.{List, map, map-map}
use native.Mathlib.Numerals.{add-one}
use native.Mathlib.Omega.{arith}
use lib.ListN.{get_or, length}
use Rattle.basics.specs.Parts.{part, cut}
use Rattle.basics.proofs.Parts.{read_more}

module _ {F B : Type 0} (g : Mut F (ℕ × Unit {0}) B) (v : ℕ → B) (f : F) (same : (x : ℕ) (y : B) (q : F) → Called g f (x, tt) y q → (q ≡ f) × (y ≡ v x)) (ys : List B) where
  made_from : (i n : ℕ) → IsFromFnResultFrom g f ys i n → (k : ℕ) → k < n → (d : B) → get_or ys (i + k) d ≡ v (i + k)
  made_from i zero h k l d = absurd (omega arith)
  made_from i (suc n) h zero l d = rw add-zero (h.2.1 d ∙ (same i h.1 h.0 h.3).1)
  made_from i (suc n) h (suc k) l d =
      let next : i + suc k ≡ i + 1 + k = omega arith in
      let P : F → Type 0 = λ q. IsFromFnResultFrom g q ys (i + 1) n in
      rw next (made_from (i + 1) n (subst P (same i h.1 h.0 h.3).0 h.4) k (omega arith) d)

  pub made_list : (n : ℕ) (d : B) → IsFromFnResult g f ys n → ys ≡ map v (range_with_len 0 n)
  made_list n d h =
      fill_by_all v ys n d h.long
      (λ k l.
      let e : 0 + k ≡ k = omega arith in
      rw e at (made_from 0 n h.each k l d))

-- what is read from each part, by the part's index
module _ {A B : Type 0} (f : List A → B) (w : ℕ) (l : List A) where
  abbrev ReadByIndex : ℕ → Type 0
  ReadByIndex n = map f (cut w n l) ≡ map (λ i. f (part l (w * i) w)) (range_with_len 0 n)

  one_more : (n : ℕ) → ReadByIndex n → ReadByIndex (n + 1)
  one_more n h = rw (read_more f w n l, h, map-range_with_len_more (λ i. f (part l (w * i) w)) 0 n n (omega arith))

  pub read_by_index : (n : ℕ) → map f (cut w n l) ≡ map (λ i. f (part l (w * i) w)) (range_with_len 0 n)
  unfolding cut
  read_by_index zero = refl
  read_by_index (suc n) = subst ReadByIndex (add-one n) (one_more n (read_by_index n))

-- the same, where what is read is written again
pub rows_by_index : {A B C : Type 0} (f : List A → B) (g : B → C) (w : ℕ) (l : List A) (n : ℕ)
    → map g (map f (cut w n l)) ≡ map (λ i. g (f (part l (w * i) w))) (range_with_len 0 n)
rows_by_index f g w l n = ap (map g) (read_by_index f w l n) ∙ map-map g (λ i. f (part l (w * i) w)) (range_with_len 0 n)

-- and what is written of each element of a list
pub written_by_index : {A B : Type 0} (g : A → B) (l : List A) (n : ℕ) (d : A) → length l ≡ n → map g l ≡ map (λ i. g (get_or l i d)) (range_with_len 0 n)
written_by_index g l n d h = ap (map g) (fill_by_all (λ i. get_or l i d) l n d h (λ k m. refl)) ∙ map-map g (λ i. get_or l i d) (range_with_len 0 n)
