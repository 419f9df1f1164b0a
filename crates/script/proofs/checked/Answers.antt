-- `script::checked` meets its contract: each test that fails is a row of the table.
-- Assumes nothing.
use native.Mathlib.Omega.{arith}
use mathlib.Core.Path.{ap, refl}
use mathlib.Core.Bool.{not}
use Rattle.answers.proofs.Outcomes.{never_0}
use Rattle.script.proofs.AtHand.{last_twelve, reads, refuses_5, refuses_6, refuses_7}
use Rattle.script.proofs.Reader.{agreed, by_1, by_2, by_3, by_4}
use Rattle.script.proofs.checked.Goals as goal

pub returns-then-size-lt-FRAME : goal.returns-then-size-lt-FRAME
returns-then-size-lt-FRAME c = rw c.reject.ensures (by_1 _ _ c.if-size-lt-FRAME.true)

pub returns-then-size : goal.returns-then-size
returns-then-size c = rw c.reject-then-size.ensures (by_2 _ _ c.if-size-lt-FRAME.false c.if-size.true)

pub returns-then-not-trailer : goal.returns-then-not-trailer
returns-then-not-trailer c =
    rw c.reject-then-not-trailer.ensures
    (by_3 _ _ c.if-size-lt-FRAME.false c.if-size.false _ (last_twelve _ _ c.if-size-lt-FRAME.false c.trailer_at-trailer.ensures) c.if-not-trailer.true)

pub returns-then-not-agrees : goal.returns-then-not-agrees
returns-then-not-agrees c =
    rw c.reject-then-not-agrees.ensures
    (by_4 _ _ c.if-size-lt-FRAME.false c.if-size.false _ (last_twelve _ _ c.if-size-lt-FRAME.false c.trailer_at-trailer.ensures) c.if-not-trailer.false (ap not (rw c.agrees.ensures at c.if-not-agrees.true)))

pub slice_bounds-read_setup-end : goal.slice_bounds-read_setup-end
slice_bounds-read_setup-end c =
    let fits = agreed _ _ (ap not (rw c.agrees.ensures at c.if-not-agrees.false)) in
    omega arith

pub returns-in_default : goal.returns-in_default
returns-in_default c =
    rw c.reject-in_default.ensures
    (refuses_5 _ _ c.if-size-lt-FRAME.false c.if-size.false _ c.trailer_at-trailer.ensures c.if-not-trailer.false _ c.agrees.ensures (ap not c.if-not-agrees.false)
    _ c.in_default.ensures (never_0 c.in_default.field-0))

pub first_record-first-requires : goal.first_record-first-requires
first_record-first-requires c =
    let fits = agreed _ _ (ap not (rw c.agrees.ensures at c.if-not-agrees.false)) in
    (fits.1, omega arith)

pub returns-then-first-count : goal.returns-then-first-count
returns-then-first-count c =
    rw c.reject-then-first-count.ensures
    (refuses_6 _ _ c.if-size-lt-FRAME.false c.if-size.false _ c.trailer_at-trailer.ensures c.if-not-trailer.false _ c.agrees.ensures (ap not c.if-not-agrees.false)
    _ c.in-Ok.ensures refl _ c.first_record-first.ensures c.if-first-count.true)

pub returns-then-space-count : goal.returns-then-space-count
returns-then-space-count c =
    rw c.reject-then-space-count.ensures
    (refuses_7 _ _ c.if-size-lt-FRAME.false c.if-size.false _ c.trailer_at-trailer.ensures c.if-not-trailer.false _ c.agrees.ensures (ap not c.if-not-agrees.false)
    _ c.in-Ok.ensures refl _ c.first_record-first.ensures c.if-first-count.false c.if-space-count.true)

pub returns : goal.returns
returns c =
    reads _ _ c.if-size-lt-FRAME.false c.if-size.false _ c.trailer_at-trailer.ensures c.if-not-trailer.false _ c.agrees.ensures (ap not c.if-not-agrees.false)
    _ c.in-Ok.ensures refl _ c.first_record-first.ensures c.if-first-count.false c.if-space-count.false
