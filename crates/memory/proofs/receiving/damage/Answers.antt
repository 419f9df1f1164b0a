-- `memory::receiving::damage` meets its contract: the reply after a gap.
-- Assumes nothing.
use mathlib.Core.Path.{◌∙◌}
use Rattle.delivery.specs.Delivery.{damaged}
use Rattle.memory.proofs.receiving.damage.Goals as goal

pub returns : goal.returns
unfolding damaged
returns c =
    record { r_after = c.put_reply.ensures.r_after ∙ simp (c.after_gap-x.ensures, c.reply.ensures); r_len = c.put_reply.ensures.r_len }
