-- `memory::receiving::refresh` meets its contract: the invariant: the rooms of the slots passed are marked, and all else is as it was.
-- Assumes nothing.
use mathlib.Core.Path.{◌≡◌}
use lib.ListN.{length}
use Rattle.words.specs.Memory.{receiver_in}
use Rattle.memory.proofs.ReceivingLaws.{marking}
use Rattle.memory.proofs.receiving.refresh.Given as goal

abbrev pub invariant-loop-i : goal.invariant-loop-i
invariant-loop-i l = (length l.r ≡ 211) × (receiver_in l.r ≡ marking (receiver_in l.initial.r) l.i)
