-- The first refusal of a row.
-- Assumes nothing.
use Rattle.std.specs.Prelude.{ℕ, eqb, if◌then◌else◌}

-- the first of two answers that refuses; 0 is no refusal
abbrev pub first_of : ℕ → ℕ → ℕ
first_of a b = if eqb a 0 then b else a
