-- `pairs::Pair::end` meets its contract: it does not matter what would stand past the second.
-- Assumes nothing.
use Rattle.std.proofs.Common.{rules}
use native.Mathlib.Omega.{arith}
use mathlib.Core.Path.{◌≡◌}
use lib.ListN.{length}
use Rattle.basics.proofs.Places.{get_or_any}
use Rattle.setup.specs.Setup.{blank_setup}
use Rattle.ends.specs.Ends.{end_of}
use Rattle.pairs.proofs.Pair.end.Goals as goal

pub returns : goal.returns
returns c =
    let long : length c.args.self.ends ≡ 2 = search rules in get_or_any c.args.self.ends c.args.i _ (end_of blank_setup) (omega (arith, long))
