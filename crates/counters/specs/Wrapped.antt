-- Counters that wrap, over the modulus: a sum, a difference and the one test on them.
-- The modulus comes first in each. Assumes nothing.
use Rattle.std.specs.Prelude.{ℕ, ◌+◌, ◌-◌, ◌%◌, Bool, nat_le}

-- (a + b) modulo m
unfoldable pub plus : ℕ → ℕ → ℕ → ℕ
plus m a b = (a + b) % m

-- (a − b) modulo m: how far a lies ahead of b
unfoldable pub minus : ℕ → ℕ → ℕ → ℕ
minus m a b = (a + (m - b % m)) % m

-- (a − b) modulo m is at most `most`: a lies at most that far ahead of b
unfoldable pub within : ℕ → ℕ → ℕ → ℕ → Bool
within m most a b = nat_le (minus m a b) most

-- (limit − consumed − need) modulo m is at most half the range
unfoldable pub gate : ℕ → ℕ → ℕ → ℕ → ℕ → Bool
gate m half limit consumed need = within m half (minus m limit consumed) need
