-- A run of steps over a pair, in order, with the packets accepted and taken at each end.
-- Assumes nothing.
use Rattle.std.specs.Prelude.{ℕ, ◌+◌, ◌*◌, ◌/◌, Bool, not, ◌&&◌, List, [], ◌∷◌, ◌++◌, length, take, drop, ◌==◌, nat_lt, slice_index, slice_set, if◌then◌else◌, Result, Ok, Err}
use Rattle.basics.specs.Parts.{part}
use Rattle.counters.specs.Wrapped.{plus}
use Rattle.script.specs.declared.Step.{Step}
use Rattle.script.specs.Step.{is_submit, is_take, step_of}
use Rattle.pairs.specs.declared.Pair.{Pair}
use Rattle.pairs.specs.Steps as Pairs
use Rattle.answers.specs.declared.Refusal.{Refusal}
use Rattle.answers.specs.declared.After.{After}
use Rattle.answers.specs.Answers.{number_of}
use Rattle.runs.specs.declared.Run.{Run}

-- step i of a list of numbers, six for each; a step out of form where the list ends before it
unfoldable pub step_from : List ℕ → ℕ → Step
step_from l i =
    if nat_lt i (length l / 6) then step_of (part l (6 * i) 6)
    else record { step = 0; end = 0; class = 0; kind = 0; length = 0; ident = 0 }

abbrev pub run : Pair → List ℕ → List ℕ → Run
run p accepted taken = record { pair = p; accepted = accepted; taken = taken }

unfoldable pub start_of : Pair → Run
start_of p = run p (0 ∷ 0 ∷ []) (0 ∷ 0 ∷ [])

-- one more at this end, modulo 2 ^ 32: no script has so many steps
unfoldable pub grown : List ℕ → ℕ → Bool → List ℕ
grown counts end one =
    if not one then counts
    else if nat_lt end 2 then slice_set counts end (plus 4294967296 (slice_index counts end) 1)
    else counts

-- the run after a step, with the step's answer and detail
pub record Advanced : Type 0 where
  pub run : Run
  pub answer : ℕ
  pub detail : ℕ

-- a refusal leaves it as it was, with detail 0
abbrev pub advanced_of : Run → Result (After Run) Refusal → Advanced
advanced_of r (Ok x) = record { run = x.state; answer = 0; detail = x.detail }
advanced_of r (Err refusal) = record { run = r; answer = number_of refusal; detail = 0 }

-- packets accepted by Submit there and packets taken there: those steps that answered 0
unfoldable pub advance_of : Run → Step → Advanced
advance_of r t =
    let d = Pairs.step_of r.pair t in
    record {
      run = run d.pair (grown r.accepted t.end (is_submit t.step && d.answer == 0)) (grown r.taken t.end (is_take t.step && d.answer == 0));
      answer = d.answer;
      detail = d.detail;
    }

-- the steps in their order
unfoldable pub run_of : Run → List Step → Run
run_of r [] = r
run_of r (t ∷ ts) = run_of (advance_of r t).run ts

-- answer, then detail, of each step in its order
unfoldable pub answers_of : Run → List Step → List ℕ
answers_of r [] = []
answers_of r (t ∷ ts) = (advance_of r t).answer ∷ (advance_of r t).detail ∷ answers_of (advance_of r t).run ts

-- as many whole pairs of numbers as the list has room for; what is behind stays
unfoldable pub filled : List ℕ → List ℕ → List ℕ
filled out xs = let ys = take (2 * (length out / 2)) xs in ys ++ drop (length ys) out

-- pair i of the list, where it has room for it
unfoldable pub noted : List ℕ → ℕ → ℕ → ℕ → List ℕ
noted out i answer detail =
    if nat_lt i (length out / 2) then slice_set (slice_set out (2 * i) answer) (2 * i + 1) detail
    else out
