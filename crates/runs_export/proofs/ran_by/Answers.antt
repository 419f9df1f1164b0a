-- `runs_export::ran_by` meets its contract.
-- Assumes nothing.
use Rattle.runs_export.specs.Ran.{ran_by, retrains_of}
use Rattle.runs_export.proofs.ran_by.Goals as goal

pub returns : goal.returns
unfolding ran_by retrains_of
returns c = simp (c.retrains_at-2.ensures, c.retrains_at.ensures)
