-- `stores::store_packets` meets its contract: all places, then how many there are.
-- Assumes nothing.
use native.Mathlib.Omega.{arith}
use Rattle.memory.proofs.StoreLaws.{packets-back}
use Rattle.memory.proofs.stores.store_packets.Goals as goal

pub returns-clause-q_after : goal.returns-clause-q_after
returns-clause-q_after c = packets-back c.args.q.now c.requires c.args.p c.write_all.new.words (omega arith) c.write_all.ensures.words_after
