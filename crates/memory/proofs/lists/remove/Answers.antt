-- `memory::lists::remove` meets its contract: past its places there is nothing to take out.
-- Assumes nothing.
use native.Mathlib.Omega.{arith}
use Prim.Native.Nat.{◌+◌}
use Rattle.words.specs.Memory.{packets_in}
use Rattle.memory.proofs.ListsLaws.{none_past}
use Rattle.memory.proofs.lists.remove.Goals as goal

pub returns-else-i-lt-PLACES : goal.returns-else-i-lt-PLACES
returns-else-i-lt-PLACES c =
    record { q_after = none_past (packets_in c.args.q.now) c.args.i (c.args.i + 1) (omega arith); q_len = c.requires }
