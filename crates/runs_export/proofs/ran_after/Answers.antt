-- `runs_export::ran_after` meets its contract: the run's own promise on the front of the list.
-- Assumes nothing.
use Rattle.runs_export.proofs.Lent.{steps_lent}
use Rattle.runs_export.proofs.ran_after.Goals as goal

pub returns : goal.returns
returns c =
    let front = steps_lent c.args.count c.args.l.now c.requires.1 in
    (simp (c.ran_by.ensures, c.run_listing.ensures.0, c.fresh.ensures, front), simp (c.run_listing.ensures.1, c.fresh.ensures, front))
