-- `listing::put_number` meets its contract: the digits over a part that they fill.
-- Assumes nothing.
use Rattle.std.proofs.Common.{rules}
use native.Mathlib.Omega.{arith}
use Prim.Native.Nat.{◌+◌, ◌-◌}
use mathlib.Core.Path.{◌≡◌}
use lib.ListN.{length}
use Rattle.listing.specs.Listing.{digits}
use Rattle.listing.proofs.Digits.{at-most_ten}
use Rattle.listing.proofs.Placed.{placed_lent}
use Rattle.listing.proofs.put_number.Goals as goal

pub overflow_add-end : goal.overflow_add-end
overflow_add-end c = omega (arith, c.count.ensures, at-most_ten c.args.n (search rules))

pub slice_bounds-spell-end : goal.slice_bounds-spell-end
slice_bounds-spell-end c = omega (arith, c.count.ensures, at-most_ten c.args.n (search rules))

pub returns : goal.returns
returns c =
    let e : c.args.at + c.count.result - c.args.at ≡ length (digits c.args.n) = omega (arith, c.count.ensures) in
    let ten = at-most_ten c.args.n (search rules) in
    record { upper_bound = omega (arith, c.count.ensures); value = (omega (arith, c.count.ensures), rw (e, c.spell.ensures) (placed_lent c.args.at (digits c.args.n) c.args.w.now)) }
