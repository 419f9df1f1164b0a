-- `rounds::take_until` meets its contract: the invariant: what is left to take makes the whole.
-- Assumes nothing.
use Prim.Native.Nat.{◌+◌, ◌-◌}
use native.Mathlib.Omega.{arith}
use mathlib.Core.Path.{◌≡◌, refl, sym, ◌∙◌}
use Rattle.answers.proofs.Outcomes.{no_refusal_is_0}
use Rattle.rounds.proofs.Rows.{no_takes, refused, taken}
use Rattle.rounds.proofs.take_until.Goals as goal

pub loop-init : goal.loop-init
loop-init c = refl

pub returns-in_default : goal.returns-in_default
returns-in_default c =
    sym (refused c.args.end c.args.channel c.args.category c.loop.r _ c.in_default.ensures (49 - c.loop.counter) (omega arith) (no_refusal_is_0 c.in_default.field-0))
    ∙ c.loop.invariant

pub loop-preserved : goal.loop-preserved
loop-preserved c =
    let less : 49 - (c.loop.counter + 1) ≡ 49 - c.loop.counter - 1 = omega arith in
    rw less
    (sym (taken c.args.end c.args.channel c.args.category c.loop.r _ c.in-Ok.ensures (49 - c.loop.counter) (omega arith) refl)
    ∙ c.loop.invariant)

pub returns : goal.returns
returns c =
    sym (no_takes c.args.end c.args.channel c.args.category (49 - c.loop.counter) c.loop.r (omega arith)) ∙ c.loop.invariant
