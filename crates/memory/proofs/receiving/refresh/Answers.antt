-- `memory::receiving::refresh` meets its contract: the invariant: the rooms of the slots passed are marked, and all else is as it was.
-- Assumes nothing.
use native.Mathlib.Omega.{arith}
use mathlib.Core.Path.{◌∙◌}
use Prim.Native.Nat.{◌+◌}
use Rattle.words.specs.Memory.{receiver_in}
use Rattle.words.proofs.Receiving.{set_keeps}
use Rattle.memory.proofs.ReceivingLaws.{length_rooms, mark_turn, marked_used}
use Rattle.memory.proofs.receiving.refresh.Goals as goal

pub loop-i-preserved : goal.loop-i-preserved
loop-i-preserved c = (
  set_keeps c.loop-i.r c.loop-i.invariant.0 (196 + c.loop-i.i) _,
  mark_turn (receiver_in c.args.r.now) (length_rooms c.args.r.now c.requires) c.loop-i.r c.loop-i.invariant.0 c.loop-i.i _ (omega arith) c.loop-i.invariant.1 c.marked_word.ensures,
)

pub returns-clause-r_after : goal.returns-clause-r_after
returns-clause-r_after c =
    c.loop-i.invariant.1 ∙ marked_used (receiver_in c.args.r.now) (length_rooms c.args.r.now c.requires) c.loop-i.i c.args.n (omega arith)
