-- `stores::store_receiver` meets its contract.
-- Assumes nothing.
use native.Mathlib.Omega.{arith}
use Rattle.memory.proofs.StoreLaws.{receiver-stored}
use Rattle.memory.proofs.stores.store_receiver.Goals as goal

pub returns : goal.returns
returns c =
    let both = receiver-stored c.args.r.now (omega arith) c.args.x c.store_lists.new.m c.write_all.new.words c.write_reply.new.x
    c.store_lists.ensures.m_after c.store_lists.ensures.m_len c.write_all.ensures.words_after (omega arith) c.write_reply.ensures.x_after c.write_reply.ensures.x_len in
    record { r_after = both.0; r_len = both.1 }
