-- `listing::hand_out` meets its contract: the line fits, or the buffer stays.
-- Assumes nothing.
use native.Mathlib.Omega.{arith}
use mathlib.Core.Path.{◌∙◌}
use Rattle.listing.proofs.Placed.{line_kept, line-placed}
use Rattle.listing.proofs.hand_out.Goals as goal

pub returns-then-w-line : goal.returns-then-w-line
returns-then-w-line c =
    record { upper_bound = omega arith; value = line_kept c.args.line.now c.args.w.now c.if-w-line.true }

pub returns : goal.returns
returns c =
    let e = line-placed c.args.line.now c.args.w.now c.if-w-line.false in
    record { upper_bound = c.put_text.ensures.upper_bound; value = (c.put_text.ensures.value.0 ∙ e.0, c.put_text.ensures.value.1 ∙ e.1) }
