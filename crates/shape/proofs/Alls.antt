-- What `all` answers over an array, over a part of one, and over a range, in the words of the definitions: `each` and `all`.
-- Assumes nothing.
use Prim.Native.Nat.{ℕ, zero, suc, ◌+◌}
use mathlib.Core.Path.{◌≡◌, refl, sym, ap}
use mathlib.Core.Bool.{Bool, true, false, ◌&&◌}
use mathlib.Core.List.{List, [], ◌∷◌}
use native.Mathlib.Omega.{arith}
use lib.ListN.{length, get_or, take}
use Rattle.std.specs.List.{list_all, range_with_len, enumerate_from}
use Rattle.basics.specs.Lists.{all}
use Rattle.basics.specs.Each.{each}
use Rattle.basics.proofs.Branches.{and_assoc}

-- the first of many apart
each_front : (n : ℕ) (f : ℕ → Bool) → each (suc n) f ≡ (f 0 && each n (λ k. f (suc k)))
unfolding each
each_front zero f = true_last (f 0)
  where
    true_last : (a : Bool) → (true && a) ≡ (a && true)
    true_last true = refl
    true_last false = refl
each_front (suc n) f = rw (each_front n f) (and_assoc (f 0) (each n (λ k. f (suc k))) (f (suc n)))

module _ {A : Type 0} (ok : A → Bool) where
  each_in : (xs : List A) (d : A) → list_all ok xs ≡ each (length xs) (λ k. ok (get_or xs k d))
  unfolding each
  each_in [] d = refl
  each_in (x ∷ xs) d = rw (each_in xs d) (sym (each_front (length xs) (λ k. ok (get_or (x ∷ xs) k d))))

  pub all_list : (xs : List A) → list_all ok xs ≡ all ok xs
  all_list [] = refl
  all_list (x ∷ xs) = rw (all_list xs)

  pub each_list : (xs : List A) (d : A) {n : ℕ} → length xs ≡ n → list_all ok xs ≡ each n (λ k. ok (get_or xs k d))
  each_list xs d e = rw (← e) (each_in xs d)

-- over the n numbers from a
each_from : (f g : ℕ → Bool) (a n : ℕ) → ((k m : ℕ) → m ≡ a + k → f m ≡ g k) → list_all f (range_with_len a n) ≡ each n g
unfolding each
each_from f g a zero h = refl
each_from f g a (suc n) h =
    rw (h 0 a (omega arith), each_from f (λ k. g (suc k)) (a + 1) n (λ k m e. h (suc k) m (omega arith))) (sym (each_front n g))

pub each_below : (f : ℕ → Bool) (n : ℕ) → list_all f (range_with_len 0 n) ≡ each n f
each_below f n = each_from f f 0 n (λ k m e. let same : m ≡ k = omega arith in ap f same)

-- those that are kept in the first n places, however many places there are
pub front_same : {A : Type 0} (n : ℕ) (xs : List A) → take (length (take n xs)) xs ≡ take n xs
front_same zero xs = refl
front_same (suc n) [] = refl
front_same (suc n) (x ∷ xs) = ap (λ r. x ∷ r) (front_same n xs)

-- each with its place
module _ {A : Type 0} (ok : ℕ → A → Bool) where
  enumerated_from : (g : ℕ → A → Bool) (a : ℕ) → ((k m : ℕ) → m ≡ a + k → ok m ≡ g k) → (xs : List A) (d : A)
      → list_all (λ p. ok p.0 p.1) (enumerate_from a xs) ≡ each (length xs) (λ k. g k (get_or xs k d))
  unfolding each
  enumerated_from g a h [] d = refl
  enumerated_from g a h (x ∷ xs) d =
      rw (h 0 a (omega arith), enumerated_from (λ k. g (suc k)) (a + 1) (λ k m e. h (suc k) m (omega arith)) xs d)
      (sym (each_front (length xs) (λ k. g k (get_or (x ∷ xs) k d))))

  pub each_enumerated : (xs : List A) (d : A) {n : ℕ} → length xs ≡ n
      → list_all (λ p. ok p.0 p.1) (enumerate_from 0 xs) ≡ each n (λ k. ok k (get_or xs k d))
  each_enumerated xs d e = rw (← e) (enumerated_from ok 0 (λ k m e. let same : m ≡ k = omega arith in ap ok same) xs d)
