-- `memory::receiving::tell` meets its contract: its room unmarked.
-- Assumes nothing.
use mathlib.Core.Path.{◌∙◌}
use Rattle.receiver.specs.Receiver.{told}
use Rattle.memory.proofs.receiving.tell.Goals as goal

pub returns : goal.returns
unfolding told
returns c =
    record { r_after = c.put_room.ensures.r_after ∙ simp (c.unmark-x.ensures, c.from_word.ensures, c.room.ensures); r_len = c.put_room.ensures.r_len }
