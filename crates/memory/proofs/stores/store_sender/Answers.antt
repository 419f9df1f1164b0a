-- `stores::store_sender` meets its contract.
-- Assumes nothing.
use native.Mathlib.Omega.{arith}
use Rattle.memory.proofs.StoreLaws.{sender-stored}
use Rattle.memory.proofs.stores.store_sender.Goals as goal

pub returns : goal.returns
returns c =
    let both = sender-stored c.args.s.now (omega arith) c.args.x c.store_lists.new.m c.store_packets.new.q c.write_all.new.words c.to_word.result c.to_word-2.result c.write_replay.new.x
    c.store_lists.ensures.m_after c.store_lists.ensures.m_len c.store_packets.ensures.q_after c.store_packets.ensures.q_len
    c.write_all.ensures.words_after (omega arith) c.to_word.ensures.result_value c.to_word-2.ensures.result_value c.write_replay.ensures.x_after c.write_replay.ensures.x_len in
    record { s_after = both.0; s_len = both.1 }
