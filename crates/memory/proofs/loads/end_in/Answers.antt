-- `loads::end_in` meets its contract.
-- Assumes nothing.
use Rattle.words.specs.Memory.{end_in}
use Rattle.memory.proofs.loads.end_in.Goals as goal

pub returns : goal.returns
unfolding end_in
returns c = rw (c.sender_in-sender.ensures, c.receiver_in-receiver.ensures)
