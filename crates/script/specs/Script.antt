-- A script: step records from offset 0, then the setup, then a trailer that points back.
-- Assumes nothing.
use Rattle.std.specs.Prelude.{ℕ, ◌+◌, ◌-◌, ◌*◌, Bool, ◌&&◌, not, List, [], ◌∷◌, ◌++◌, map, leb, ltb, eqb, get_or, length, drop, if◌then◌else◌, Result, Ok, Err}
use Rattle.answers.specs.Answers.{number_of}
use Rattle.basics.specs.Each.{first_not}
use Rattle.basics.specs.Number.{four, whole_four}
use Rattle.basics.specs.Parts.{part, cut, joined}
use Rattle.setup.specs.declared.Setup.{Setup}
use Rattle.setup.specs.Setup.{blank_setup, in_range}
use Rattle.setup.specs.Bytes.{setup_at, setup_bytes, setup_length}
use Rattle.script.specs.Step.{in_form, numbers_of, record_bytes, record_in_form, step_at, step_of}
use Rattle.script.specs.declared.Step.{Step}
use Rattle.script.specs.declared.Trailer.{Trailer}
use Rattle.script.specs.declared.Script.{Script}
use Rattle.script.specs.declared.Rejection.{Rejection}

-- ---- sizes

abbrev pub most_steps : ℕ
most_steps = 5451

abbrev pub script_length : ℕ → ℕ
script_length count = 12 * count + (setup_length + 12)

-- ---- the bytes

-- setup offset (4); count (4); mark, the letters PLRN
unfoldable pub trailer_bytes : ℕ → List ℕ
trailer_bytes count = four (12 * count) ++ (four count ++ (80 ∷ 76 ∷ 82 ∷ 78 ∷ []))

unfoldable pub script_bytes : Setup → List Step → List ℕ
script_bytes s ts = joined (map record_bytes ts) ++ (setup_bytes s ++ trailer_bytes (length ts))

-- ---- what the bytes say

unfoldable pub trailer_at : List ℕ → Trailer
trailer_at t =
    record {
      offset = whole_four (get_or t 0 0) (get_or t 1 0) (get_or t 2 0) (get_or t 3 0);
      count = whole_four (get_or t 4 0) (get_or t 5 0) (get_or t 6 0) (get_or t 7 0);
      marked = eqb (get_or t 8 0) 80 && (eqb (get_or t 9 0) 76 && (eqb (get_or t 10 0) 82 && eqb (get_or t 11 0) 78));
    }

-- the trailer is the last 12 bytes
unfoldable pub trailer_of : List ℕ → Trailer
trailer_of b = trailer_at (part b (length b - 12) 12)

-- a trailer agrees with a length, and says no more steps than a script has
unfoldable pub agrees : Trailer → ℕ → Bool
agrees t size =
    eqb t.offset (12 * t.count) && (eqb size (script_length t.count) && leb t.count most_steps)

abbrev pub count_of : List ℕ → ℕ
count_of b = (trailer_of b).count

unfoldable pub setup_of : List ℕ → Setup
setup_of b = setup_at (part b (12 * count_of b) setup_length)

-- each record is its own 12 bytes
abbrev pub records_of : List ℕ → List (List ℕ)
records_of b = cut 12 (count_of b) b

unfoldable pub steps_of : List ℕ → List Step
steps_of b = map step_at (records_of b)

-- ---- the reader: answers 1 to 7, with their places

-- what reading gives: 0 with the count of steps and the setup, or a refusal with its place, no count and the blank setup
pub record Read : Type 0 where
  pub answer : ℕ
  pub place : ℕ
  pub count : ℕ
  pub setup : Setup

abbrev pub refused : ℕ → ℕ → Read
refused answer place = record { answer = answer; place = place; count = 0; setup = blank_setup }

abbrev pub read_of : Result Script Rejection → Read
read_of (Ok s) = record { answer = 0; place = 0; count = s.count; setup = s.setup }
read_of (Err r) = refused (number_of r.refusal) r.place

-- reading the bytes b, with room for so many numbers of steps
unfoldable pub read_script : List ℕ → ℕ → Read
read_script b space =
    if ltb (length b) (script_length 0) then refused 1 0
    else if ltb (script_length most_steps) (length b) then refused 2 0
    else if not (trailer_of b).marked then refused 3 0
    else if not (agrees (trailer_of b) (length b)) then refused 4 0
    else if not (in_range (setup_of b)) then refused 5 (12 * count_of b)
    else if ltb (first_not record_in_form (records_of b)) (count_of b) then refused 6 (12 * first_not record_in_form (records_of b))
    else if ltb space (6 * count_of b) then refused 7 0
    else record { answer = 0; place = 0; count = count_of b; setup = setup_of b }

-- a list of numbers after reading: six for each step and no later ones, or all as it was
unfoldable pub list_after : List ℕ → List ℕ → List ℕ
list_after b l =
    if eqb (read_script b (length l)).answer 0 then joined (map numbers_of (steps_of b)) ++ drop (6 * count_of b) l
    else l

-- ---- the writer: answers 4 to 7, with the places in the script that would be written

-- the steps that a list of numbers says, six for each
unfoldable pub steps_in : List ℕ → ℕ → List Step
steps_in l count = map step_of (cut 6 count l)

-- what writing gives: 0 with the script's length, or a refusal with its place and no length
pub record Written : Type 0 where
  pub answer : ℕ
  pub place : ℕ
  pub length : ℕ

abbrev pub rejected : ℕ → ℕ → Written
rejected answer place = record { answer = answer; place = place; length = 0 }

abbrev pub written_of : Result ℕ Rejection → Written
written_of (Ok n) = record { answer = 0; place = 0; length = n }
written_of (Err r) = rejected (number_of r.refusal) r.place

-- 4 also where the list has fewer than six numbers a step
unfoldable pub write_script : Setup → List ℕ → ℕ → ℕ → Written
write_script s l count space =
    if ltb most_steps count then rejected 4 0
    else if ltb (length l) (6 * count) then rejected 4 0
    else if not (in_range s) then rejected 5 (12 * count)
    else if ltb (first_not in_form (steps_in l count)) count then rejected 6 (12 * first_not in_form (steps_in l count))
    else if ltb space (script_length count) then rejected 7 0
    else record { answer = 0; place = 0; length = script_length count }

-- the buffer after writing: the script's bytes and no later ones, or all as it was
unfoldable pub buffer_after : Setup → List ℕ → ℕ → List ℕ → List ℕ
buffer_after s l count w =
    if eqb (write_script s l count (length w)).answer 0 then script_bytes s (steps_in l count) ++ drop (script_length count) w
    else w
