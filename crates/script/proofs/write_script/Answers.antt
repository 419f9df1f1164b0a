-- `script::write_script` meets its contract: each test that fails is a row of the table, and only then a byte is written.
-- Assumes nothing.
use native.Mathlib.Omega.{arith}
use Prim.Native.Nat.{◌*◌}
use mathlib.Core.Path.{ap, ◌∙◌}
use mathlib.Core.Bool.{not}
use lib.ListN.{length}
use Rattle.std.specs.Prelude.{Err}
use Rattle.script.specs.Script.{written_of}
use Rattle.script.proofs.Writer.{all_form, buffer_filled, buffer_kept, done, formless, many, missing, short, wrong}
use Rattle.script.proofs.write_script.Goals as goal

pub returns-then-count-gt-MOST_STEPS : goal.returns-then-count-gt-MOST_STEPS
returns-then-count-gt-MOST_STEPS c =
    buffer_kept c.args.s c.args.l.now c.args.count c.args.w.now _ 3 0 (ap (λ r. written_of (Err r)) c.reject.ensures) (many _ _ _ _ c.if-count-gt-MOST_STEPS.true)

pub returns-then-l-count : goal.returns-then-l-count
returns-then-l-count c =
    buffer_kept c.args.s c.args.l.now c.args.count c.args.w.now _ 3 0 (ap (λ r. written_of (Err r)) c.reject-then-l-count.ensures)
    (missing _ _ _ _ c.if-count-gt-MOST_STEPS.false c.if-l-count.true)

pub returns-then-not-in_range : goal.returns-then-not-in_range
returns-then-not-in_range c =
    buffer_kept c.args.s c.args.l.now c.args.count c.args.w.now _ 4 (12 * c.args.count) (ap (λ r. written_of (Err r)) c.reject-then-not-in_range.ensures)
    (wrong _ _ _ _ c.if-count-gt-MOST_STEPS.false c.if-l-count.false (ap not (rw c.in_range.ensures at c.if-not-in_range.true)))

pub returns-then-first-count : goal.returns-then-first-count
returns-then-first-count c =
    buffer_kept c.args.s c.args.l.now c.args.count c.args.w.now _ 5 (12 * c.first_step-first.result) (ap (λ r. written_of (Err r)) c.reject-then-first-count.ensures)
    (formless _ _ _ _ c.if-count-gt-MOST_STEPS.false c.if-l-count.false (ap not (rw c.in_range.ensures at c.if-not-in_range.false)) _ c.first_step-first.ensures c.if-first-count.true)

pub returns-then-w-length : goal.returns-then-w-length
returns-then-w-length c =
    buffer_kept c.args.s c.args.l.now c.args.count c.args.w.now _ 6 0 (ap (λ r. written_of (Err r)) c.reject-then-w-length.ensures)
    (short _ _ _ _ c.if-count-gt-MOST_STEPS.false c.if-l-count.false (ap not (rw c.in_range.ensures at c.if-not-in_range.false)) _ c.first_step-first.ensures
    c.if-first-count.false (omega arith))

pub fill_script-requires : goal.fill_script-requires
fill_script-requires c =
    (c.if-count-gt-MOST_STEPS.false, c.if-l-count.false, c.if-w-length.false, all_form _ _ _ c.first_step-first.ensures c.if-first-count.false, rw c.in_range.ensures at c.if-not-in_range.false)

pub returns : goal.returns
returns c =
    let e = done c.args.s c.args.l.now c.args.count (length c.args.w.now) c.if-count-gt-MOST_STEPS.false c.if-l-count.false (ap not (rw c.in_range.ensures at c.if-not-in_range.false)) _ c.first_step-first.ensures
    c.if-first-count.false c.if-w-length.false in
    (e, c.fill_script.ensures ∙ buffer_filled c.args.s c.args.l.now c.args.count c.args.w.now e)
