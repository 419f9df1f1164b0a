-- `memory::receiving::store` meets its contract: the packet, the room and the reply are written.
-- Assumes nothing.
use mathlib.Core.Path.{◌∙◌}
use Rattle.words.specs.Words.{packet_in}
use Rattle.words.specs.Memory.{receiver_in}
use Rattle.memory.proofs.ReceivingWays.{stored-all}
use Rattle.memory.proofs.receiving.store.Goals as goal

pub returns : goal.returns
returns c =
    record {
      r_after = stored-all (receiver_in c.args.r.now) _ _ _ c.args.channel _ (packet_in c.args.w) _ _ _ _ c.push.ensures.r_after c.put_room.ensures.r_after c.put_reply.ensures.r_after
          (c.slot-slot.ensures.value ∙ simp (c.category.ensures, c.from_word-p.ensures)) (c.from_word.ensures ∙ c.room.ensures)
          (c.need.ensures ∙ simp c.from_word-p.ensures) c.receive-grown.ensures (c.after_accepted-x.ensures ∙ simp c.reply.ensures);
      r_len = c.put_reply.ensures.r_len;
    }
