-- `choice::choose` meets its contract. The loop's invariant: what is found from i on is what is found from the front, and
-- `seen` says which categories the packets before i are of.
-- Assumes nothing.
use mathlib.Core.Path.{◌≡◌}
use mathlib.Core.List.{[]}
use lib.ListN.{take, drop}
use Rattle.basics.specs.Lists.{find_after}
use Rattle.choice.specs.Choice.{eligible}
use Rattle.choice.specs.Seen.{seen_in}
use Rattle.choice.proofs.choose.Given as goal

abbrev pub invariant-loop-i : goal.invariant-loop-i
invariant-loop-i l = record {
  passed : l.seen ≡ seen_in (take l.i l.p-items);
  same : find_after (eligible l.credits) [] l.p-items 0 ≡ find_after (eligible l.credits) (take l.i l.p-items) (drop l.i l.p-items) l.i;
}
