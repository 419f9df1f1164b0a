-- `memory::sending::replay` meets its contract.
-- Assumes nothing.
use Rattle.words.specs.Memory.{sender_in}
use Rattle.memory.proofs.sending.replay.Goals as goal

pub returns : goal.returns
unfolding sender_in
returns c = c.replay_in.ensures
