-- `memory::sending::new_packet` meets its contract. The invariant: no channel from c on has an eligible packet.
-- Assumes nothing.
use native.Mathlib.Omega.{arith}
use Prim.Native.Nat.{◌-◌}
use mathlib.Core.Path.{◌≡◌, sym, ◌∙◌}
use Rattle.sender.specs.Sources.{highest}
use Rattle.sender.proofs.Choosing.{highest-here, highest-next}
use Rattle.words.specs.Memory.{sender_in}
use Rattle.memory.proofs.SendingLaws.{new_none, new_sought}
use Rattle.memory.proofs.sending.new_packet.Goals as goal

pub returns-then-s-ge-BUFFER : goal.returns-then-s-ge-BUFFER
returns-then-s-ge-BUFFER c = new_none c.args.s.now (omega arith) c.if-s-ge-BUFFER.true

pub loop-c-init : goal.loop-c-init
loop-c-init c = new_sought c.args.s.now (omega arith) c.if-s-ge-BUFFER.false

pub returns-in-Some : goal.returns-in-Some
returns-in-Some c =
    let s = sender_in c.args.s.now in
    sym (c.loop-c.invariant ∙ highest-here s c.loop-c.c (c.loop-c.c - 1) (omega arith) _ (sym c.chosen_in.ensures ∙ c.in-Some.is))

pub loop-c-preserved : goal.loop-c-preserved
loop-c-preserved c =
    let s = sender_in c.args.s.now in
    (c.loop-c.invariant ∙ highest-next s c.loop-c.c (c.loop-c.c - 1) (omega arith) (sym c.chosen_in.ensures ∙ c.in_default.is))

pub returns : goal.returns
unfolding highest
returns c =
    let e : c.loop-c.c ≡ 0 = omega arith in
    sym (c.loop-c.invariant ∙ rw e)
