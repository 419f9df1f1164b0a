-- Laws of one place of a list: what stands there, and a store past the end.
-- Assumes nothing.
use Prim.Native.Nat.{ℕ, zero, suc, ◌≤◌, ◌<◌}
use mathlib.Core.Path.{◌≡◌, refl, ap}
use mathlib.Core.List.{List, [], ◌∷◌}
use native.Mathlib.Nat.{not-suc-le-zero, le_of_suc-le-suc}
use lib.ListN.{length, get_or, set, replicate}

module _ {A : Type 0} where
  -- below the end it does not matter what would stand past it
  pub get_or_any : (l : List A) (i : ℕ) (d e : A) → i < length l → get_or l i d ≡ get_or l i e
  get_or_any [] i d e h = absurd (not-suc-le-zero h)
  get_or_any (x ∷ xs) zero d e h = refl
  get_or_any (x ∷ xs) (suc i) d e h = get_or_any xs i d e (le_of_suc-le-suc h)

  -- a store past the end changes nothing
  pub set_past : (l : List A) (i : ℕ) (a : A) → length l ≤ i → set l i a ≡ l
  set_past [] i a h = refl
  set_past (x ∷ xs) zero a h = absurd (not-suc-le-zero h)
  set_past (x ∷ xs) (suc i) a h = ap (λ r. x ∷ r) (set_past xs i a (le_of_suc-le-suc h))

  -- what holds of the stored element and of what stood at a place holds of what stands there after the store
  pub stored-keeps : (P : A → Type 0) (l : List A) (i k : ℕ) (a d : A) → P a → P (get_or l k d) → P (get_or (set l i a) k d)
  stored-keeps P [] i k a d h g = g
  stored-keeps P (x ∷ xs) zero zero a d h g = h
  stored-keeps P (x ∷ xs) zero (suc k) a d h g = g
  stored-keeps P (x ∷ xs) (suc i) zero a d h g = g
  stored-keeps P (x ∷ xs) (suc i) (suc k) a d h g = stored-keeps P xs i k a d h g

  -- a list of one element over and over has it at every place, and past them too
  pub get_or-same : (n k : ℕ) (a : A) → get_or (replicate n a) k a ≡ a
  get_or-same zero k a = refl
  get_or-same (suc n) zero a = refl
  get_or-same (suc n) (suc k) a = get_or-same n k a
