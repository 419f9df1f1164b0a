-- `memory::lists::count_of` meets its contract. The loop's invariant: what was counted and what is left make the whole.
-- Assumes nothing.
use Prim.Native.Nat.{◌+◌, ◌≤◌}
use mathlib.Core.Path.{◌≡◌}
use lib.ListN.{drop}
use Rattle.basics.specs.Lists.{total}
use Rattle.packets.specs.Packets.{header_units}
use Rattle.store.specs.Store.{held}
use Rattle.store.proofs.Categories.{share}
use Rattle.words.specs.Memory.{packets_in}
use Rattle.memory.proofs.lists.count_of.Given as goal

abbrev pub invariant-loop-w : goal.invariant-loop-w
invariant-loop-w l =
    (l.n ≤ l.w-index)
    × (l.n + total (share header_units l.c) (drop l.w-index (held (packets_in l.q))) ≡ total (share header_units l.c) (held (packets_in l.q)))
