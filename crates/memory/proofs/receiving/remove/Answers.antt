-- `memory::receiving::remove` meets its contract: the words of its buffer come back.
-- Assumes nothing.
use native.Mathlib.Omega.{arith}
use Rattle.store.specs.declared.Packets.{Packets}
use Rattle.store.specs.Store.{removed}
use Rattle.memory.proofs.ReceivingLaws.{inbox-back}
use Rattle.memory.proofs.receiving.remove.Goals as goal

pub returns : goal.returns
returns c =
    let both = inbox-back c.args.r.now (omega arith) c.args.channel c.remove.new.q (λ (q : Packets). removed q c.args.place) (omega arith) c.remove.ensures.q_after c.remove.ensures.q_len in
    record { r_after = both.0; r_len = both.1 }
