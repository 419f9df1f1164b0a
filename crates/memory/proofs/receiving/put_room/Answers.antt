-- `memory::receiving::put_room` meets its contract: the word of its room.
-- Assumes nothing.
use native.Mathlib.Omega.{arith}
use Rattle.memory.proofs.ReceivingLaws.{room-put}
use Rattle.memory.proofs.receiving.put_room.Goals as goal

pub returns : goal.returns
returns c =
    let both = room-put c.args.r.now (omega arith) c.args.slot _ c.args.x (omega arith) c.to_word.ensures.result_value in
    record { r_after = both.0; r_len = both.1 }
