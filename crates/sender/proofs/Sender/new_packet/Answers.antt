-- `sender::Sender::new_packet` meets its contract. The invariant: no channel from c on has an eligible packet.
-- Assumes nothing.
use native.Mathlib.Omega.{arith}
use Prim.Native.Nat.{◌-◌}
use mathlib.Core.Path.{◌≡◌, sym, ◌∙◌}
use borrow.Author.Tests.{lt-ltb, le-ltb}
use Rattle.sender.proofs.Choosing.{highest-here, highest-next}
use Rattle.sender.specs.Sources.{highest, new_of}
use Rattle.sender.proofs.Sender.new_packet.Goals as goal

pub returns-then-self-ge-BUFFER : goal.returns-then-self-ge-BUFFER
unfolding new_of
returns-then-self-ge-BUFFER c = simp (new_of, le-ltb _ _ c.if-self-ge-BUFFER.true)

pub loop-c-init : goal.loop-c-init
unfolding new_of
loop-c-init c = rw (lt-ltb _ _ c.if-self-ge-BUFFER.false)

pub returns-in-Some : goal.returns-in-Some
returns-in-Some c =
    sym (c.loop-c.invariant ∙ highest-here c.args.self c.loop-c.c (c.loop-c.c - 1) (omega arith) _ (sym c.chosen_in.ensures ∙ c.in-Some.is))

pub loop-c-preserved : goal.loop-c-preserved
loop-c-preserved c =
    c.loop-c.invariant ∙ highest-next c.args.self c.loop-c.c (c.loop-c.c - 1) (omega arith) (sym c.chosen_in.ensures ∙ c.in_default.is)

pub returns : goal.returns
unfolding highest
returns c =
    let e : c.loop-c.c ≡ 0 = omega arith in
    sym (c.loop-c.invariant ∙ rw e)
