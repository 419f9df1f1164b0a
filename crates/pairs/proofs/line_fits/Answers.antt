-- `pairs::line_fits` meets its contract: std's `all` asks each frame on the line.
-- Assumes nothing.
use Rattle.std.proofs.Common.{rules}
use mathlib.Core.Path.{◌∙◌}
use borrow.Author.Tests.{tests, le-leb}
use Rattle.std.proofs.lemmas.Iterator.{YieldsList-from_slice}
use Rattle.std.proofs.lemmas.Iterator.Search.{all_from_yields_List}
use Rattle.shape.proofs.Alls.{all_list}
use Rattle.line.specs.Line.{on_line}
use Rattle.pairs.specs.Steps.{slot_fits, line_fits}
use Rattle.pairs.proofs.line_fits.Goals as goal

pub returns-then-l-le16 : goal.returns-then-l-le16
unfolding line_fits
returns-then-l-le16 c =
    rw (le-leb _ _ c.if-l-le16.true)
    (all_from_yields_List (slot_fits c.args.n) _ _ _ c.all.ensures.ran (YieldsList-from_slice (on_line c.args.l) (cc)) (λ x b q k. search (rules, tests))
    ∙ all_list (slot_fits c.args.n) (on_line c.args.l))
