-- `stores::store_line` meets its contract. The invariant: the parts passed mean what is given at their places.
-- Assumes nothing.
use mathlib.Core.Path.{◌≡◌}
use mathlib.Core.List.{map}
use lib.ListN.{length, take}
use Rattle.basics.specs.Parts.{cut}
use Rattle.words.specs.Memory.{line_words, slot_in}
use Rattle.memory.proofs.stores.store_line.Given as goal

abbrev pub invariant-loop-i : goal.invariant-loop-i
invariant-loop-i l = (length l.l ≡ line_words) × (map slot_in (cut 2 l.i l.l) ≡ take l.i l.fn.x.slots)
