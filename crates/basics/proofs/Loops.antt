-- What holds of each number below a bound holds of all of them together.
-- Assumes nothing.
use Prim.Native.Nat.{ℕ, zero, suc, ◌<◌}
use mathlib.Core.Path.{◌≡◌, refl}
use mathlib.Core.Bool.{Bool, true}
use native.Mathlib.Nat.{le_refl}
use native.Mathlib.Omega.{arith}
use Rattle.basics.specs.Each.{each}

pub each_all : (n : ℕ) (f : ℕ → Bool) → ((i : ℕ) → i < n → f i ≡ true) → each n f ≡ true
unfolding each
each_all zero f h = refl
each_all (suc n) f h = rw (each_all n f (λ i k. h i (omega arith)), h n (le_refl (suc n)))
