-- `runs_export::taken_after` meets its contract: the run's own promise on the front of the list.
-- Assumes nothing.
use Rattle.runs_export.specs.Taken.{taken_after}
use Rattle.runs_export.proofs.Lent.{steps_lent}
use Rattle.runs_export.proofs.taken_after.Goals as goal

pub returns : goal.returns
unfolding taken_after
returns c =
    simp (taken_after, c.taken_by.ensures, c.run_steps.ensures, c.fresh.ensures, steps_lent c.args.count c.args.l.now c.requires)
