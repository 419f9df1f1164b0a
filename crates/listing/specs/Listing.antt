-- The listing's text: numbers in decimal, and each line as its bytes.
-- Assumes nothing.
use Rattle.std.specs.Prelude.{ℕ, zero, suc, ◌+◌, ◌/◌, ◌%◌, List, [], ◌∷◌, ◌++◌, leb, ltb, length, take, drop, if◌then◌else◌}
use Prim.Native.String.{String, [] as []ˢ, ◌∷◌ as ◌∷ˢ◌}
use Prim.Native.Char.{code}

-- ---- texts and numbers

-- the bytes of a text, each character its code
abbrev pub letters : String → List ℕ
letters []ˢ = []
letters (c ∷ˢ s) = code c ∷ letters s

-- The decimal digits of a number, digit 0 the byte 48. A number below ten is one digit; else the digits of its tenth come first, and
-- then the remainder by ten. `most` bounds how many there are.
unfoldable pub digits_within : ℕ → ℕ → List ℕ
digits_within zero n = []
digits_within (suc most) n =
    if ltb n 10 then (48 + n) ∷ [] else digits_within most (n / 10) ++ ((48 + n % 10) ∷ [])

-- a number n has at most n + 1 digits
unfoldable pub digits : ℕ → List ℕ
digits n = digits_within (suc n) n

-- ---- the lines

unfoldable pub header_line : List ℕ
header_line = letters "step answer detail\n"

unfoldable pub step_line : ℕ → ℕ → ℕ → List ℕ
step_line index answer detail =
    digits index ++ letters " " ++ digits answer ++ letters " " ++ digits detail ++ letters "\n"

unfoldable pub end_line : ℕ → ℕ → ℕ → ℕ → List ℕ
end_line end accepted taken retrains =
    letters "end " ++ digits end ++ letters " accepted " ++ digits accepted ++ letters " taken " ++ digits taken
    ++ letters " retrains " ++ digits retrains ++ letters "\n"

unfoldable pub refused_line : ℕ → ℕ → List ℕ
refused_line number place = letters "refused " ++ digits number ++ letters " at " ++ digits place ++ letters "\n"

-- the most bytes that a line has, where its numbers have 32 bits
abbrev pub longest : ℕ
longest = 72

-- ---- the buffer lent

-- the bytes w with x over those from a place on
unfoldable pub placed : ℕ → List ℕ → List ℕ → List ℕ
placed at x w = take at w ++ (x ++ drop (at + length x) w)

-- how many bytes of a line are written over w: all, or none where w is shorter
unfoldable pub written : List ℕ → List ℕ → ℕ
written line w = if leb (length line) (length w) then length line else 0

-- what w then is
unfoldable pub after : List ℕ → List ℕ → List ℕ
after line w = if leb (length line) (length w) then line ++ drop (length line) w else w
