-- `stores::store_line` meets its contract. The invariant: the parts passed mean what is given at their places.
-- Assumes nothing.
use Rattle.std.proofs.Common.{rules}
use native.Mathlib.Omega.{arith}
use Prim.Native.Nat.{◌*◌}
use mathlib.Core.Path.{◌≡◌, refl, ◌∙◌}
use lib.ListN.{length, length-set}
use lib.Seq.{take_all}
use Rattle.basics.specs.Parts.{cut}
use Rattle.words.specs.Memory.{line_places}
use Rattle.memory.proofs.StoreLaws.{slot-stored, line-stored}
use Rattle.memory.proofs.stores.store_line.Goals as goal

pub loop-i-init : goal.loop-i-init
unfolding cut
loop-i-init c = (omega arith, refl)

pub loop-i-preserved : goal.loop-i-preserved
loop-i-preserved c =
    let long : length c.args.x.slots ≡ line_places = search rules in (
      simp length-set c.loop-i.invariant.0,
      slot-stored c.loop-i.l c.args.x.slots c.loop-i.i c.loop-i.invariant.1 _ _ c.frame_words-w.ensures.rest_value (omega arith) (omega (arith, long)),
    )

pub returns : goal.returns
returns c =
    let long : length c.args.x.slots ≡ line_places = search rules in
    let all : c.loop-i.i ≡ line_places = omega (arith, long) in
    let is = rw (all, take_all line_places c.args.x.slots (omega (arith, long))) at c.loop-i.invariant.1 in
    record { l_after = line-stored c.loop-i.l c.args.x c.loop-i.invariant.0 is; l_len = length-set c.loop-i.l (2 * line_places) c.args.x.len ∙ c.loop-i.invariant.0 }
