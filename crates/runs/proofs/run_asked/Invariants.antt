-- `runs::run_asked` meets its contract: the invariant: the steps passed were run, and the list holds their answers and details.
-- Assumes nothing.
use Rattle.std.proofs.Common.{◌≡◌, length}
use Rattle.script.specs.Script.{steps_in}
use Rattle.runs.specs.Runs.{answers_of, filled, run_of}
use Rattle.runs.proofs.run_asked.Given as goal

abbrev pub invariant-loop-i : goal.invariant-loop-i
invariant-loop-i l = (length l.out ≡ length l.initial.out) × (l.x ≡ run_of l.initial.x (steps_in l.l l.i)) × (l.out ≡ filled l.initial.out (answers_of l.initial.x (steps_in l.l l.i)))
