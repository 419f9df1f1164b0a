-- `setups::setup_in` meets its contract: each field is read from its own part.
-- Assumes nothing.
use Rattle.memory.specs.Hosted.{setup_in}
use Rattle.memory.proofs.setups.setup_in.Goals as goal

pub returns : goal.returns
unfolding setup_in
returns c = rw (c.n_in.ensures, c.all_in.ensures, c.all_in-2.ensures)
