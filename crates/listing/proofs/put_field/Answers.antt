-- `listing::put_field` meets its contract: one piece behind the other.
-- Assumes nothing.
use native.Mathlib.Omega.{arith}
use Prim.Native.Nat.{◌+◌, ◌≤◌}
use mathlib.Core.Path.{◌∙◌}
use lib.ListN.{length, length-append}
use Rattle.listing.specs.Listing.{digits}
use Rattle.listing.proofs.Placed.{placed-more}
use Rattle.listing.proofs.put_field.Goals as goal

pub returns : goal.returns
returns c =
    let room : c.args.at + length c.args.name.now ≤ length c.args.w.now = omega (arith, c.requires) in record {
      upper_bound = omega (arith, c.put_text-from.ensures.value.0, c.put_number.ensures.upper_bound);
      value = (
        rw length-append (omega (arith, c.put_text-from.ensures.value.0, c.put_number.ensures.value.0)),
        c.put_number.ensures.value.1 ∙ rw (c.put_text-from.ensures.value.1, c.put_text-from.ensures.value.0) (placed-more c.args.at c.args.name.now c.args.w.now room (digits c.args.n)),
      );
    }
