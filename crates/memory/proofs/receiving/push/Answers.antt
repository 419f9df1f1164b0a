-- `memory::receiving::push` meets its contract: the words of its buffer come back.
-- Assumes nothing.
use native.Mathlib.Omega.{arith}
use Rattle.store.specs.declared.Packets.{Packets}
use Rattle.store.specs.Store.{pushed}
use Rattle.words.specs.Words.{packet_in}
use Rattle.memory.proofs.ReceivingLaws.{inbox-back}
use Rattle.memory.proofs.receiving.push.Goals as goal

pub returns : goal.returns
returns c =
    let both = inbox-back c.args.r.now (omega arith) c.args.channel c.push.new.q (λ (q : Packets). pushed q (packet_in c.args.w)) (omega arith) c.push.ensures.q_after c.push.ensures.q_len in
    record { r_after = both.0; r_len = both.1 }
