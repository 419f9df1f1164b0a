-- `runs_export::taken_by` meets its contract.
-- Assumes nothing.
use Rattle.std.proofs.Common.{refl}
use Rattle.counters.specs.Wrapped.{plus}
use Rattle.runs_export.specs.Taken.{taken_by}
use Rattle.runs_export.proofs.taken_by.Goals as goal

pub returns : goal.returns
unfolding taken_by plus
returns c = refl
