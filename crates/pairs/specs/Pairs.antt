-- Two ends and one line each way: the start, and what each step does to the pair. Document 01, "The eight steps".
-- Line i leads to end i. Assumes nothing.
use Rattle.std.specs.Prelude.{ℕ, ◌-◌, Bool, List, [], ◌∷◌, ◌++◌, eqb, get_or, set, take, drop, if◌then◌else◌, Some, None, Option, Result, Ok, Err}
use Rattle.answers.specs.declared.Refusal.{Refusal}
use Rattle.answers.specs.declared.After.{After}
use Rattle.answers.specs.Answers.{number_of}
use Rattle.frames.specs.declared.Frame.{Frame}
use Rattle.line.specs.declared.Line.{Line}
use Rattle.line.specs.Line.{empty, is_full, put, front_of, rest_of}
use Rattle.setup.specs.declared.Setup.{Setup}
use Rattle.setup.specs.declared.Units.{Units}
use Rattle.setup.specs.Setup.{blank_setup, per_end, in_range}
use Rattle.ends.specs.declared.End.{End}
use Rattle.ends.specs.Ends.{Stepped}
use Rattle.ends.specs.Sends.{Sent}
use Rattle.ends.specs.Ends.{end_of}
use Rattle.ends.specs.Sends.{send_of}
use Rattle.pairs.specs.declared.Pair.{Pair}

abbrev pub pair : List End → List Line → Pair
pair ends lines = record { ends = ends; lines = lines }

-- the pair after a step, with answer and detail
pub record Done : Type 0 where
  pub pair : Pair
  pub answer : ℕ
  pub detail : ℕ

abbrev pub done : Pair → ℕ → ℕ → Done
done p answer detail = record { pair = p; answer = answer; detail = detail }

-- a refusal leaves it as it was, with detail 0
abbrev pub done_of : Pair → Result (After Pair) Refusal → Done
done_of p (Ok x) = done x.state 0 x.detail
done_of p (Err refusal) = done p (number_of refusal) 0

abbrev pub end_at : Pair → ℕ → End
end_at p i = get_or p.ends i (end_of blank_setup)

abbrev pub line_at : Pair → ℕ → Line
line_at p i = get_or p.lines i empty

-- the other end of end i
abbrev pub other : ℕ → ℕ
other i = 1 - i

-- ---- the start

abbrev pub turned : List Units → List Units
turned units = drop per_end units ++ take per_end units

-- the setup as end 1 sees it: its own units first
unfoldable pub swapped : Setup → Setup
swapped link = record { n = link.n; classes = link.classes; units = turned link.units }

unfoldable pub pair_of : Setup → Pair
pair_of link = pair (end_of link ∷ end_of (swapped link) ∷ []) (empty ∷ empty ∷ [])

-- the pair that was started, with the answer
pub record Paired : Type 0 where
  pub pair : Pair
  pub answer : ℕ

-- 5: a bad setup gives no pair; the pair of the blank setup stands in its place
unfoldable pub start_of : Setup → Paired
start_of link = if in_range link then record { pair = pair_of link; answer = 0 } else record { pair = pair_of blank_setup; answer = 5 }

abbrev pub paired_of : Result Pair Refusal → Paired
paired_of (Ok p) = record { pair = p; answer = 0 }
paired_of (Err refusal) = record { pair = pair_of blank_setup; answer = number_of refusal }

-- ---- a step of one end alone: Submit, Take, Timer, Refresh

unfoldable pub by_end : Pair → ℕ → Stepped → Done
by_end p i s = done (pair (set p.ends i s.end) p.lines) s.answer s.detail

-- ---- Send: the frame goes on the line to the other end. 18: no frame applies; 17: the line is full

abbrev pub carried : Pair → ℕ → Sent → Option Frame → Done
carried p i s (Some f) =
    if is_full (line_at p (other i)) then done p 17 0
    else done (pair (set p.ends i s.end) (set p.lines (other i) (put (line_at p (other i)) f))) 0 s.detail
carried p i s None = done p 18 0

unfoldable pub send_at : Pair → ℕ → Done
send_at p i = carried p i (send_of (end_at p i)) (send_of (end_at p i)).frame

-- ---- the oldest frame on the line towards the end. 19: the line is empty

-- it reached the end, as `s`; if the end refuses it, it stays on the line
unfoldable pub reached : Pair → ℕ → Stepped → Done
reached p i s =
    if eqb s.answer 0 then done (pair (set p.ends i s.end) (set p.lines i (rest_of (line_at p i)))) 0 s.detail
    else done p s.answer 0

abbrev pub on_front : Pair → Option Frame → (Frame → Done) → Done
on_front p (Some f) found = found f
on_front p None found = done p 19 0

-- Arrive or Damage, by what the frame does at the end
unfoldable pub reach_at : (End → Frame → Stepped) → Pair → ℕ → Done
reach_at step p i = on_front p (front_of (line_at p i)) (λ f. reached p i (step (end_at p i) f))

-- Lose: that frame vanishes
unfoldable pub lose_at : Pair → ℕ → Done
lose_at p i = on_front p (front_of (line_at p i)) (λ f. done (pair p.ends (set p.lines i (rest_of (line_at p i)))) 0 0)
