-- A run of one step more.
-- Assumes nothing.
use Rattle.std.proofs.Common.{◌≡◌, ℕ, ◌+◌, ◌*◌, List, [], ◌∷◌, ◌++◌, refl}
use Rattle.basics.specs.Parts.{part}
use Rattle.basics.proofs.Parts.{read_more}
use Rattle.script.specs.declared.Step.{Step}
use Rattle.script.specs.Step.{step_of}
use Rattle.script.specs.Script.{steps_in}
use Rattle.runs.specs.declared.Run.{Run}
use Rattle.runs.specs.Runs.{advance_of, run_of}

pub run_more : (r : Run) (ts : List Step) (t : Step) → run_of r (ts ++ (t ∷ [])) ≡ (advance_of (run_of r ts) t).run
unfolding run_of
run_more r [] t = refl
run_more r (x ∷ xs) t = run_more (advance_of r x).run xs t

-- the same where the steps are read from a list of numbers
pub run-next : (r : Run) (l : List ℕ) (i : ℕ) → run_of r (steps_in l (i + 1)) ≡ (advance_of (run_of r (steps_in l i)) (step_of (part l (6 * i) 6))).run
unfolding steps_in
run-next r l i = rw (read_more step_of 6 i l) (run_more r (steps_in l i) (step_of (part l (6 * i) 6)))
