-- `memory::receiving::room` meets its contract.
-- Assumes nothing.
use native.Mathlib.Omega.{arith}
use Rattle.words.proofs.Receiving.{room-is}
use Rattle.memory.proofs.receiving.room.Goals as goal

pub returns : goal.returns
returns c = room-is c.args.r.now (omega arith) c.args.slot (omega arith)
