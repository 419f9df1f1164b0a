-- `memory::lists::size` meets its contract.
-- Assumes nothing.
use native.Mathlib.Omega.{arith}
use Rattle.memory.proofs.ListsLaws.{size_is}
use Rattle.memory.proofs.lists.size.Goals as goal

pub returns-clause-value : goal.returns-clause-value
returns-clause-value c = size_is c.args.q.now c.requires c.min.result (omega arith)
