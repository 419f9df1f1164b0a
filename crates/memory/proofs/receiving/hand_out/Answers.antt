-- `memory::receiving::hand_out` meets its contract: the rest of the packets and the room are written.
-- Assumes nothing.
use mathlib.Core.Path.{◌∙◌}
use Rattle.words.specs.Memory.{receiver_in}
use Rattle.memory.proofs.ReceivingWays.{handed_all}
use Rattle.memory.proofs.receiving.hand_out.Goals as goal

pub returns : goal.returns
returns c =
    record {
      result_value = (
        c.word_at-w.ensures,
        handed_all (receiver_in c.args.r.now) _ _ c.args.channel _ c.args.place c.args.c _ _ _ _ c.remove.ensures.r_after c.put_room.ensures.r_after c.slot-slot.ensures.value
            (c.from_word-p.ensures ∙ c.word_at-w.ensures) (c.from_word.ensures ∙ c.room.ensures) c.need.ensures c.give_back-grown.ensures,
      );
      r_len = c.put_room.ensures.r_len;
    }
