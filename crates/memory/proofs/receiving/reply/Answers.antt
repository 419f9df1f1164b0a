-- `memory::receiving::reply` meets its contract: its three words.
-- Assumes nothing.
use Rattle.words.specs.Memory.{receiver_in}
use Rattle.memory.proofs.receiving.reply.Goals as goal

pub returns : goal.returns
unfolding receiver_in
returns c = c.reply_in.ensures
