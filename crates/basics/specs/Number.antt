-- Numbers little-endian, in two and in four bytes.
-- Assumes nothing.
use Rattle.std.specs.Prelude.{ℕ, ◌+◌, ◌*◌, ◌/◌, ◌%◌, List, [], ◌∷◌}

-- the bytes of a number
abbrev pub two : ℕ → List ℕ
two x = x % 256 ∷ x / 256 ∷ []

abbrev pub four : ℕ → List ℕ
four x = x % 256 ∷ x / 256 % 256 ∷ x / 65536 % 256 ∷ x / 16777216 ∷ []

-- the number of some bytes
abbrev pub whole_two : ℕ → ℕ → ℕ
whole_two a b = a + 256 * b

abbrev pub whole_four : ℕ → ℕ → ℕ → ℕ → ℕ
whole_four a b c d = a + 256 * b + 65536 * c + 16777216 * d
