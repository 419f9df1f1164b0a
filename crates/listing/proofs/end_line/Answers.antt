-- `listing::end_line` meets its contract: the line grows field by field.
-- Assumes nothing.
use native.Mathlib.Omega.{arith}
use mathlib.Core.Path.{◌≡◌, refl, sym}
use lib.ListN.{take}
use lib.Seq.{length-take-le}
use Rattle.listing.specs.Listing.{end_line, letters}
use Rattle.listing.proofs.Placed.{field_grown, grown}
use Rattle.listing.proofs.end_line.Goals as goal

pub slice_bounds-hand_out-end : goal.slice_bounds-hand_out-end
slice_bounds-hand_out-end c =
    sym (length-take-le c.put_text-e.result c.put_text-e.new.w (omega (arith, c.put_text-e.auto, c.put_text-e.ensures.upper_bound)))

pub returns : goal.returns
unfolding end_line
returns c =
    let to_end = field_grown 0 _ _ _ _ refl (letters "end ") c.args.end c.put_field-a.ensures.value (omega arith) in
    let to-accepted = field_grown _ _ _ _ _ to_end (letters " accepted ") c.args.accepted c.put_field-b.ensures.value (omega arith) in
    let to-taken = field_grown _ _ _ _ _ to-accepted (letters " taken ") c.args.taken c.put_field-c.ensures.value (omega arith) in
    let to-retrains = field_grown _ _ _ _ _ to-taken (letters " retrains ") c.args.retrains c.put_field-d.ensures.value (omega arith) in
    let all : take c.put_text-e.result c.put_text-e.new.w ≡ end_line c.args.end c.args.accepted c.args.taken c.args.retrains
    = grown _ _ _ _ _ to-retrains (letters "\n") c.put_text-e.ensures.value (omega arith) in
    rw all at c.hand_out.ensures
