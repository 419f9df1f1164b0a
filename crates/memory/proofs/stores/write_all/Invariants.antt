-- `stores::write_all` meets its contract. The invariant: the words passed mean what is given at their places.
-- Assumes nothing.
use mathlib.Core.Path.{◌≡◌}
use mathlib.Core.List.{map}
use lib.ListN.{length, take}
use Rattle.memory.proofs.stores.write_all.Given as goal

abbrev pub invariant-loop-i : goal.invariant-loop-i
invariant-loop-i g l = (length l.words ≡ length l.values) × (map g.T.Word.meaning (take l.i l.words) ≡ take l.i l.values)
