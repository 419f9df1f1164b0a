-- `memory::receiving::put_reply` meets its contract: its three words come back.
-- Assumes nothing.
use native.Mathlib.Omega.{arith}
use Rattle.memory.proofs.ReceivingLaws.{reply-back}
use Rattle.memory.proofs.receiving.put_reply.Goals as goal

pub returns : goal.returns
returns c =
    let both = reply-back c.args.r.now (omega arith) c.write_reply.new.x c.args.x c.write_reply.ensures.x_after c.write_reply.ensures.x_len in
    record { r_after = both.0; r_len = both.1 }
