-- `loads::sender_in` meets its contract.
-- Assumes nothing.
use native.Mathlib.Omega.{arith}
use Rattle.memory.proofs.LoadLaws.{sender-read}
use Rattle.memory.proofs.loads.sender_in.Goals as goal

pub returns : goal.returns
returns c =
    sender-read c.args.s.now (omega arith) _ c.lists_in-queues.ensures _ c.packets_in-buffer.ensures _ c.all_in-credits.ensures
    _ _ c.from_word-next.ensures c.from_word-acked.ensures _ c.replay-replay.ensures
