-- `listing::step_line` meets its contract: the line grows number by number.
-- Assumes nothing.
use native.Mathlib.Omega.{arith}
use mathlib.Core.Path.{◌≡◌, refl, sym}
use lib.ListN.{take}
use lib.Seq.{length-take-le}
use Rattle.listing.specs.Listing.{digits, letters, step_line}
use Rattle.listing.proofs.Placed.{field_grown, grown}
use Rattle.listing.proofs.step_line.Goals as goal

pub slice_bounds-hand_out-end : goal.slice_bounds-hand_out-end
slice_bounds-hand_out-end c =
    sym (length-take-le c.put_text-d.result c.put_text-d.new.w (omega (arith, c.put_text-d.auto, c.put_text-d.ensures.upper_bound)))

pub returns : goal.returns
unfolding step_line
returns c =
    let to-index = grown 0 _ _ _ _ refl (digits c.args.index) c.put_number-a.ensures.value (omega arith) in
    let to-answer = field_grown _ _ _ _ _ to-index (letters " ") c.args.answer c.put_field-b.ensures.value (omega arith) in
    let to-detail = field_grown _ _ _ _ _ to-answer (letters " ") c.args.detail c.put_field-c.ensures.value (omega arith) in
    let all : take c.put_text-d.result c.put_text-d.new.w ≡ step_line c.args.index c.args.answer c.args.detail
    = grown _ _ _ _ _ to-detail (letters "\n") c.put_text-d.ensures.value (omega arith) in
    rw all at c.hand_out.ensures
