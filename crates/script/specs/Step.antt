-- A step and its form; a step as six numbers, and as a record of 12 bytes.
-- Assumes nothing.
use Rattle.std.specs.Prelude.{ℕ, ◌<◌, Bool, ◌&&◌, ◌||◌, List, [], ◌∷◌, ◌++◌, leb, eqb, get_or, if◌then◌else◌, Option, Some, None}
use Rattle.basics.specs.Number.{four, two, whole_four, whole_two}
use Rattle.setup.specs.Setup.{within}
use Rattle.script.specs.declared.Step.{Step}
use Rattle.script.specs.declared.Action.{Action}

-- ---- what a step does, by its number

abbrev pub action_number : Action → ℕ
action_number Action.Submit = 1
action_number Action.Send = 2
action_number Action.Arrive = 3
action_number Action.Damage = 4
action_number Action.Lose = 5
action_number Action.Take = 6
action_number Action.Timer = 7
action_number Action.Refresh = 8

abbrev pub action_of : ℕ → Option Action
action_of step =
    if eqb step 1 then Some Action.Submit
    else if eqb step 2 then Some Action.Send
    else if eqb step 3 then Some Action.Arrive
    else if eqb step 4 then Some Action.Damage
    else if eqb step 5 then Some Action.Lose
    else if eqb step 6 then Some Action.Take
    else if eqb step 7 then Some Action.Timer
    else if eqb step 8 then Some Action.Refresh
    else None

-- ---- the form: known step, end 0 or 1, zeros in place

-- Submit is step 1: it uses class, kind, length and ident
abbrev pub is_submit : ℕ → Bool
is_submit step = eqb step 1

-- Take is step 6: it uses the channel and the category, where Submit has class and kind
abbrev pub is_take : ℕ → Bool
is_take step = eqb step 6

-- the most that a field can hold: `most` where the step uses it, zero where it has no use for it
abbrev pub room : Bool → ℕ → ℕ
room used most = if used then most else 0

-- zeros in place, and where a field is used, at most `one` in class or channel and in kind or category, at most `two` in the length
unfoldable pub fields_fit : ℕ → ℕ → Step → Bool
fields_fit one two t =
    leb t.class (room (is_submit t.step || is_take t.step) one)
    && (leb t.kind (room (is_submit t.step || is_take t.step) one)
    && (leb t.length (room (is_submit t.step) two)
    && leb t.ident (room (is_submit t.step) 4294967295)))

unfoldable pub form_by : ℕ → ℕ → Step → Bool
form_by one two t = within 1 8 t.step && (leb t.end 1 && fields_fit one two t)

-- of six numbers of 32 bits: a used field may hold any of these
abbrev pub formed : Step → Bool
formed t = form_by 4294967295 4294967295 t

-- of a record: one byte for class or channel, one for kind or category, two for the length, four for the ident
abbrev pub in_form : Step → Bool
in_form t = form_by 255 65535 t

-- each number fits its bytes; a step in form does
pub record FitsBytes (t : Step) : Type 0 where
  pub step : t.step < 256
  pub end : t.end < 256
  pub class : t.class < 256
  pub kind : t.kind < 256
  pub length : t.length < 65536

-- ---- six numbers

unfoldable pub numbers_of : Step → List ℕ
numbers_of t = t.step ∷ t.end ∷ t.class ∷ t.kind ∷ t.length ∷ t.ident ∷ []

unfoldable pub step_of : List ℕ → Step
step_of l =
    record {
      step = get_or l 0 0;
      end = get_or l 1 0;
      class = get_or l 2 0;
      kind = get_or l 3 0;
      length = get_or l 4 0;
      ident = get_or l 5 0;
    }

-- ---- twelve bytes

-- step number; end; class or channel; kind or category; length (2); two zeros; ident (4)
unfoldable pub record_bytes : Step → List ℕ
record_bytes t = t.step ∷ t.end ∷ t.class ∷ t.kind ∷ two t.length ++ (0 ∷ 0 ∷ four t.ident)

unfoldable pub step_at : List ℕ → Step
step_at r =
    record {
      step = get_or r 0 0;
      end = get_or r 1 0;
      class = get_or r 2 0;
      kind = get_or r 3 0;
      length = whole_two (get_or r 4 0) (get_or r 5 0);
      ident = whole_four (get_or r 8 0) (get_or r 9 0) (get_or r 10 0) (get_or r 11 0);
    }

-- is a record in form? its two zeros too
unfoldable pub record_in_form : List ℕ → Bool
record_in_form r = eqb (get_or r 6 0) 0 && (eqb (get_or r 7 0) 0 && in_form (step_at r))
