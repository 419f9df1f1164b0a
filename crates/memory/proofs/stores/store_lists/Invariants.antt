-- `stores::store_lists` meets its contract. The invariant: the parts passed mean what is given at their places.
-- Assumes nothing.
use Prim.Native.Nat.{◌*◌}
use mathlib.Core.Path.{◌≡◌}
use mathlib.Core.List.{map}
use lib.ListN.{length, take}
use Rattle.basics.specs.Parts.{cut}
use Rattle.setup.specs.Setup.{channels}
use Rattle.words.specs.Memory.{list_words, packets_in}
use Rattle.memory.proofs.stores.store_lists.Given as goal

abbrev pub invariant-loop-c : goal.invariant-loop-c
invariant-loop-c l = (length l.m ≡ list_words * channels) × (map packets_in (cut list_words l.c l.m) ≡ take l.c l.fn.lists)
