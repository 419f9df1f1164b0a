-- `memory::receiving::clear` meets its contract: the reply with nothing owed.
-- Assumes nothing.
use mathlib.Core.Path.{◌∙◌}
use Rattle.receiver.specs.Receiver.{cleared}
use Rattle.memory.proofs.receiving.clear.Goals as goal

pub returns : goal.returns
unfolding cleared
returns c =
    record { r_after = c.put_reply.ensures.r_after ∙ simp c.reply.ensures; r_len = c.put_reply.ensures.r_len }
