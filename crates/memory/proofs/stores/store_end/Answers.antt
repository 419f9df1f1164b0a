-- `stores::store_end` meets its contract.
-- Assumes nothing.
use native.Mathlib.Omega.{arith}
use Rattle.memory.proofs.StoreLaws.{end-stored}
use Rattle.memory.proofs.stores.store_end.Goals as goal

pub returns : goal.returns
returns c =
    let both = end-stored c.args.m.now (omega arith) c.args.e c.store_sender.new.s c.store_receiver.new.r
    c.store_sender.ensures.s_after c.store_sender.ensures.s_len c.store_receiver.ensures.r_after c.store_receiver.ensures.r_len in
    record { m_after = both.0; m_len = both.1 }
