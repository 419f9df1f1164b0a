-- `listing::put_text` meets its contract: the text over a part that it fills.
-- Assumes nothing.
use native.Mathlib.Omega.{arith}
use Prim.Native.Nat.{◌+◌, ◌-◌}
use mathlib.Core.Path.{◌≡◌, refl}
use lib.ListN.{length}
use Rattle.listing.proofs.Placed.{placed_lent}
use Rattle.listing.proofs.put_text.Goals as goal

pub returns-clause-value : goal.returns-clause-value
returns-clause-value c =
    let e : c.args.at + length c.args.text.now - c.args.at ≡ length c.args.text.now = omega arith in
    (refl, rw (e, c.copy_from_slice.ensures.after) (placed_lent c.args.at c.args.text.now c.args.w.now))
