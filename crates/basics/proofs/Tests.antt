-- Two tests on numbers that ask the same have the same value.
-- Assumes nothing.
use Prim.Native.Nat.{ℕ, ◌+◌, ◌-◌, ◌≤◌, ◌<◌}
use mathlib.Core.Path.{◌≡◌, refl, sym}
use mathlib.Core.Bool.{Bool, true, false}
use native.Mathlib.Nat.{lt_of_not-le, not-le_of_lt}
use native.Mathlib.Omega.{arith}
use lib.Dec.{leb, eqb}
use borrow.Author.Tests.{le-leb, lt-leb, leb-true, leb-false, eq-eqb, ne_eqb, eqb-true, eqb-false}

pub leb_same : (a b c d : ℕ) → (a ≤ b → c ≤ d) → (c ≤ d → a ≤ b) → leb a b ≡ leb c d
leb_same a b c d to back = go (leb a b) refl
  where
    go : (t : Bool) → leb a b ≡ t → t ≡ leb c d
    go true e = sym (le-leb c d (to (leb-true a b e)))
    go false e = sym (lt-leb c d (lt_of_not-le (λ h. not-le_of_lt (leb-false a b e) (back h))))

-- a sum is met where the rest is
pub sum_met : (a b m : ℕ) → a ≤ m → eqb b (m - a) ≡ eqb (a + b) m
sum_met a b m h = go (eqb b (m - a)) refl
  where
    go : (t : Bool) → eqb b (m - a) ≡ t → t ≡ eqb (a + b) m
    go true e = sym (eq-eqb (a + b) m (omega (arith, eqb-true b (m - a) e)))
    go false e = sym (ne_eqb (a + b) m (λ k. eqb-false b (m - a) e (omega arith)))

-- and by no number where one part is already over it
pub sum_over : (a b m : ℕ) → m < a → eqb (a + b) m ≡ false
sum_over a b m h = ne_eqb (a + b) m (omega arith)
