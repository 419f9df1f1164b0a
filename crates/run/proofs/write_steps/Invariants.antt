-- `run::write_steps`: what waits is no more than the buffer holds.
-- Assumes nothing.
use Rattle.std.proofs.Common.{◌≤◌}
use Rattle.run.proofs.write_steps.Given as goal

abbrev pub invariant-loop-index : goal.invariant-loop-index
invariant-loop-index g l =
    (goal.iterator-loop-index g).can_next l.index-iterator ×
    (goal.iterator-loop-index g).is_finite l.index-iterator × (l.at ≤ 8192)
