-- `loads::receiver_in` meets its contract.
-- Assumes nothing.
use native.Mathlib.Omega.{arith}
use Rattle.memory.proofs.LoadLaws.{receiver-read}
use Rattle.memory.proofs.loads.receiver_in.Goals as goal

pub returns : goal.returns
returns c =
    receiver-read c.args.r.now (omega arith) _ c.lists_in-inboxes.ensures _ c.all_in-rooms.ensures _ c.reply-reply.ensures
