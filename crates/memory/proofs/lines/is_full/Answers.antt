-- `memory::lines::is_full` meets its contract.
-- Assumes nothing.
use mathlib.Core.Path.{refl}
use Rattle.words.specs.Memory.{line_in}
use Rattle.memory.proofs.lines.is_full.Goals as goal

pub returns : goal.returns
unfolding line_in
returns c = refl
