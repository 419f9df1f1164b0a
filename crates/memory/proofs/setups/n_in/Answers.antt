-- `setups::n_in` meets its contract.
-- Assumes nothing.
use Rattle.memory.specs.Hosted.{setup_in}
use Rattle.memory.proofs.setups.n_in.Goals as goal

pub returns : goal.returns
unfolding setup_in
returns c = c.from_word.ensures
