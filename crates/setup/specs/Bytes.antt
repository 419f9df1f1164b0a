-- The setup's bytes.
-- Assumes nothing.
use Rattle.std.specs.Prelude.{ℕ, ◌+◌, ◌*◌, not, List, ◌∷◌, ◌++◌, map, ltb, eqb, get_or, length, drop, if◌then◌else◌, Result, Ok, Err}
use Rattle.answers.specs.declared.Refusal.{Refusal}
use Rattle.answers.specs.Answers.{number_of}
use Rattle.basics.specs.Number.{two, whole_two}
use Rattle.basics.specs.Parts.{part, cut, joined}
use Rattle.setup.specs.Setup.{slots, blank_setup, in_range}
use Rattle.setup.specs.declared.Setup.{Setup}
use Rattle.setup.specs.declared.Units.{Units}

-- ---- what the bytes are

-- header units (2) and data units (2)
unfoldable pub units_bytes : Units → List ℕ
units_bytes u = two u.header ++ two u.payload

-- n; channels of classes 1 to 7; then the units, at 8 + 48·end + 12·channel + 4·category
unfoldable pub setup_bytes : Setup → List ℕ
setup_bytes s = s.n ∷ s.classes ++ joined (map units_bytes s.units)

abbrev pub setup_length : ℕ
setup_length = 8 + 4 * slots

-- ---- what they say

unfoldable pub units_of : List ℕ → Units
units_of b = record { header = whole_two (get_or b 0 0) (get_or b 1 0); payload = whole_two (get_or b 2 0) (get_or b 3 0) }

unfoldable pub setup_at : List ℕ → Setup
setup_at b = record { n = get_or b 0 0; classes = part b 1 7; units = map units_of (cut 4 slots (drop 8 b)) }

-- what reading a setup gives: an answer number, and the setup, or the blank one where it is refused
pub record Found : Type 0 where
  pub answer : ℕ
  pub setup : Setup

abbrev pub found_of : Result Setup Refusal → Found
found_of (Ok s) = record { answer = 0; setup = s }
found_of (Err refusal) = record { answer = number_of refusal; setup = blank_setup }

-- bytes that are no setup
unfoldable pub no_setup : Found
no_setup = record { answer = 5; setup = blank_setup }

-- 5 where there are more or fewer bytes than a setup has, or where it is out of range
unfoldable pub read_setup : List ℕ → Found
read_setup b =
    if not (eqb (length b) setup_length) then no_setup
    else if not (in_range (setup_at b)) then no_setup
    else record { answer = 0; setup = setup_at b }

-- ---- writing

-- 5 a setup out of range, 7 too little room
unfoldable pub write_answer : Setup → ℕ → ℕ
write_answer s room =
    if not (in_range s) then 5
    else if ltb room setup_length then 7
    else 0

-- the room after writing: the setup's bytes and no later ones, or all as it was
unfoldable pub setup_after : Setup → List ℕ → List ℕ
setup_after s w = if eqb (write_answer s (length w)) 0 then setup_bytes s ++ drop setup_length w else w
