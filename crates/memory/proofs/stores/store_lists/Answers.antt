-- `stores::store_lists` meets its contract. The invariant: the parts passed mean what is given at their places.
-- Assumes nothing.
use Rattle.std.proofs.Common.{rules}
use native.Mathlib.Omega.{arith}
use mathlib.Core.Path.{◌≡◌, refl, ◌∙◌}
use lib.ListN.{length}
use lib.Seq.{take_all}
use Rattle.basics.specs.Parts.{cut}
use Rattle.setup.specs.Setup.{channels}
use Rattle.words.specs.Memory.{list_words, packets_in}
use Rattle.memory.proofs.StoreLaws.{part-back}
use Rattle.memory.proofs.stores.store_lists.Goals as goal

pub loop-c-init : goal.loop-c-init
unfolding cut
loop-c-init c = (omega arith, refl)

pub loop-c-preserved : goal.loop-c-preserved
loop-c-preserved c =
    let long : length c.args.lists ≡ channels = search rules in
    let back = part-back packets_in list_words c.loop-c.m c.args.lists c.loop-c.c c.loop-c.invariant.1 c.store_packets.new.q _
    c.store_packets.ensures.q_after c.store_packets.ensures.q_len (omega arith) (omega (arith, long)) in
    (back.0 ∙ c.loop-c.invariant.0, back.1)

pub returns : goal.returns
returns c =
    let long : length c.args.lists ≡ channels = search rules in
    let all : c.loop-c.c ≡ channels = omega (arith, long) in
    record { m_after = rw (all, take_all channels c.args.lists (omega (arith, long))) at c.loop-c.invariant.1; m_len = omega arith }
