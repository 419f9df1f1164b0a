-- `counters::Seq::after` meets its contract: the remainder of n leaves the sum as it is.
-- Assumes nothing.
use Rattle.std.proofs.Common.{ap, arith}
use Rattle.counters.specs.Wrapped.{plus}
use Rattle.counters.specs.Counters.{seq}
use Rattle.counters.proofs.Seq.after.Goals as goal

pub returns : goal.returns
unfolding plus
returns c = simp (c.add.ensures, c.from.ensures) (ap seq (omega arith))
