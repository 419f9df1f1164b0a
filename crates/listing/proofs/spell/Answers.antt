-- `listing::spell` meets its contract: the digits not yet written come before those that are.
-- Assumes nothing.
use native.Mathlib.Omega.{arith}
use Prim.Native.Nat.{◌+◌, ◌-◌, ◌/◌, ◌%◌}
use mathlib.Core.Path.{◌≡◌, refl}
use lib.ListN.{length, length-set}
use Rattle.listing.proofs.Digits.{length_more, some_digits}
use Rattle.listing.proofs.Placed.{spelt_start, spelt_more, spelt_all}
use Rattle.listing.proofs.spell.Goals as goal

pub overflow_sub-i : goal.overflow_sub-i
overflow_sub-i c = omega (arith, some_digits c.args.n)

pub loop-rest-init : goal.loop-rest-init
loop-rest-init c =
    let some = some_digits c.args.n in
    (omega arith, omega arith, refl, spelt_start c.args.n (length c.args.w.now - 1 + 1) c.args.w.now (omega arith))

pub loop-rest-preserved : goal.loop-rest-preserved
loop-rest-preserved c =
    let more = length_more c.loop-rest.rest c.loop-rest-test.true in
    let some = some_digits (c.loop-rest.rest / 10) in
    let size = length-set c.loop-rest.w c.loop-rest.i (48 + c.loop-rest.rest % 10) in
    let e : c.loop-rest.i - 1 + 1 ≡ c.loop-rest.i = omega arith in
    (omega arith, omega arith, omega arith, rw e (spelt_more c.args.n c.loop-rest.rest c.loop-rest.i c.loop-rest.w c.loop-rest.invariant.0 c.loop-rest.invariant.3 c.loop-rest.invariant.1 c.loop-rest-test.true))

pub returns : goal.returns
returns c =
    spelt_all c.args.n c.loop-rest.rest c.loop-rest.i c.loop-rest.w c.loop-rest.invariant.0 c.loop-rest.invariant.3 c.loop-rest.invariant.1 c.loop-rest-test.false

pub overflow_sub-i-in-loop-rest : goal.overflow_sub-i-in-loop-rest
overflow_sub-i-in-loop-rest c =
    omega (arith, length_more c.loop-rest.rest c.loop-rest-test.true, some_digits (c.loop-rest.rest / 10))
