-- What `array::from_fn` gives where its closure computes the element of a list at each place: that list.
-- Assumes nothing.
use Prim.Native.Nat.{ℕ, zero, suc, ◌+◌, ◌≤◌, ◌<◌}
use mathlib.Core.Path.{◌≡◌, refl, sym, subst, ◌∙◌}
use mathlib.Core.List.{List, [], ◌∷◌, map}
use native.Mathlib.Nat.{not-suc-le-zero, le_of_suc-le-suc}
use native.Mathlib.Omega.{arith}
use denote.Param.Members.{Mut, Called}
use lib.ListN.{length, get_or, length-map}
use Rattle.std.specs.Array.{IsFromFnResult, IsFromFnResultFrom}
use Rattle.std.proofs.lemmas.List.{same_lists}
use Rattle.basics.proofs.Each.{by_order_lem}

module _ {F B : Type 0} {g : Mut F (ℕ × Unit {0}) B} {f : F} {ys : List B} {n : ℕ} (e : IsFromFnResult g f ys n) where
  module _ (zs : List B) (long : length zs ≡ n)
      (same : (i : ℕ) (y : B) (q : F) → i < n → Called g f (i, tt) y q → (q ≡ f) × ((d : B) → y ≡ get_or zs i d)) where
    made-from : (i m : ℕ) → IsFromFnResultFrom g f ys i m → i + m ≤ n → (k : ℕ) (d : B) → i ≤ k → k < i + m → get_or ys k d ≡ get_or zs k d
    made-from i zero e w k d a b = absurd (omega arith)
    made-from i (suc m) e w k d a b =
        let s = same i e.1 e.0 (omega arith) e.3 in
        by_order_lem i k
        (λ l. made-from (i + 1) m (subst (λ p. IsFromFnResultFrom g p ys (i + 1) m) s.0 e.4) (omega arith) k d (omega arith) (omega arith))
        (λ (l : k ≤ i). let here : i ≡ k = omega arith in rw (← here) (e.2.1 d ∙ s.1 d))

    pub made : ys ≡ zs
    made = same_lists ys zs (e.long ∙ sym long) (λ k d l. made-from 0 n e.each (omega arith) k d (omega arith) (omega (arith, e.long)))

  -- the same, of a list that is made element by element from another
  pub made-map : {A : Type 0} (h : A → B) (us : List A) (u : A) → length us ≡ n
      → ((i : ℕ) (y : B) (q : F) → i < n → Called g f (i, tt) y q → (q ≡ f) × (y ≡ h (get_or us i u))) → ys ≡ map h us
  made-map h us u long same =
      made (map h us) (length-map us h ∙ long)
      (λ i y q l k.
      let s = same i y q l k in
      (s.0, λ d. s.1 ∙ sym (at h us u i d (omega (arith, long)))))
    where
      at : {A : Type 0} (h : A → B) (us : List A) (u : A) (i : ℕ) (d : B) → i < length us → get_or (map h us) i d ≡ h (get_or us i u)
      at h [] u i d l = absurd (not-suc-le-zero l)
      at h (x ∷ us) u zero d l = refl
      at h (x ∷ us) u (suc i) d l = at h us u i d (le_of_suc-le-suc l)
