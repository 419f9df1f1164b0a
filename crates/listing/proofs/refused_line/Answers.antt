-- `listing::refused_line` meets its contract: the line grows field by field.
-- Assumes nothing.
use native.Mathlib.Omega.{arith}
use mathlib.Core.Path.{◌≡◌, refl, sym}
use lib.ListN.{take}
use lib.Seq.{length-take-le}
use Rattle.listing.specs.Listing.{letters, refused_line}
use Rattle.listing.proofs.Placed.{field_grown, grown}
use Rattle.listing.proofs.refused_line.Goals as goal

pub slice_bounds-hand_out-end : goal.slice_bounds-hand_out-end
slice_bounds-hand_out-end c =
    sym (length-take-le c.put_text-c.result c.put_text-c.new.w (omega (arith, c.put_text-c.auto, c.put_text-c.ensures.upper_bound)))

pub returns : goal.returns
unfolding refused_line
returns c =
    let to_number = field_grown 0 _ _ _ _ refl (letters "refused ") c.args.number c.put_field-a.ensures.value (omega arith) in
    let to-place = field_grown _ _ _ _ _ to_number (letters " at ") c.args.place c.put_field-b.ensures.value (omega arith) in
    let all : take c.put_text-c.result c.put_text-c.new.w ≡ refused_line c.args.number c.args.place
    = grown _ _ _ _ _ to-place (letters "\n") c.put_text-c.ensures.value (omega arith) in
    rw all at c.hand_out.ensures
