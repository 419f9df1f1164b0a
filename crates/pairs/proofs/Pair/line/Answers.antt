-- `pairs::Pair::line` meets its contract: it does not matter what would stand past the second.
-- Assumes nothing.
use Rattle.std.proofs.Common.{rules}
use native.Mathlib.Omega.{arith}
use mathlib.Core.Path.{◌≡◌}
use lib.ListN.{length}
use Rattle.basics.proofs.Places.{get_or_any}
use Rattle.line.specs.Line.{empty}
use Rattle.pairs.proofs.Pair.line.Goals as goal

pub returns : goal.returns
returns c =
    let long : length c.args.self.lines ≡ 2 = search rules in get_or_any c.args.self.lines c.args.i _ empty (omega (arith, long))
