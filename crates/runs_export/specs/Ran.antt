-- What the run of a script gives a host: the answer, the counts, and the list of the answers.
-- Assumes nothing.
use Rattle.std.specs.Prelude.{ℕ, ◌%◌, List, [], ◌∷◌, length, ◌==◌, if◌then◌else◌}
use Rattle.pairs.specs.declared.Pair.{Pair}
use Rattle.pairs.specs.Pairs.{end_at}
use Rattle.script.specs.Script.{list_after, read_script, steps_in}
use Rattle.runs.specs.declared.Run.{Run}
use Rattle.runs.specs.Runs.{answers_of, filled, run_of}
use Rattle.runs_export.specs.Taken.{fresh_of}
use Rattle.runs_export.specs.declared.Ran.{Ran}

-- how often the link was trained again, by end
unfoldable pub retrains_of : Pair → List ℕ
retrains_of p = (end_at p 0).sender.replay.retrains.0 ∷ (end_at p 1).sender.replay.retrains.0 ∷ []

-- a refused script: the answer, and the place modulo 2 ^ 32; no script is so long
unfoldable pub refused_as : ℕ → ℕ → Ran
refused_as answer place =
    record {
      answer = answer;
      place = place % 4294967296;
      count = 0;
      accepted = 0 ∷ 0 ∷ [];
      taken = 0 ∷ 0 ∷ [];
      retrains = 0 ∷ 0 ∷ [];
    }

-- after so many steps
unfoldable pub ran_by : Run → ℕ → Ran
ran_by r count =
    record {
      answer = 0;
      place = 0;
      count = count;
      accepted = r.accepted;
      taken = r.taken;
      retrains = retrains_of r.pair;
    }

-- the script's steps alone are run, on a fresh pair
unfoldable pub ran_of : List ℕ → List ℕ → Ran
ran_of b l =
    let r = read_script b (length l) in
    if r.answer == 0 then ran_by (run_of (fresh_of r.setup) (steps_in (list_after b l) r.count)) r.count
    else refused_as r.answer r.place

-- the list lent for answers and details: as many whole pairs as it has room for, or all as it was
unfoldable pub out_after : List ℕ → List ℕ → List ℕ → List ℕ
out_after b l out =
    let r = read_script b (length l) in
    if r.answer == 0 then filled out (answers_of (fresh_of r.setup) (steps_in (list_after b l) r.count))
    else out
