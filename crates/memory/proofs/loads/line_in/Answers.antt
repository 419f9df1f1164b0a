-- `loads::line_in` meets its contract.
-- Assumes nothing.
use Rattle.words.specs.Memory.{line_in}
use Rattle.memory.proofs.loads.line_in.Goals as goal

pub returns : goal.returns
unfolding line_in
returns c = rw c.slots_in-slots.ensures
