-- `runs::run_listing` meets its contract: both ways promise the same.
-- Assumes nothing.
use Rattle.std.proofs.Common.{sym, ◌∙◌}
use Rattle.runs.proofs.run_listing.Goals as goal

pub run_kept-requires : goal.run_kept-requires
run_kept-requires c = sym c.will_last.ensures ∙ c.if-will_last.true
