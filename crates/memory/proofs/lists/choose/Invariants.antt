-- `memory::lists::choose` meets its contract. The loop's invariant: what is found from i on is what is found from the front, and
-- `seen` says which categories the packets before i are of.
-- Assumes nothing.
use mathlib.Core.Path.{◌≡◌}
use mathlib.Core.List.{[], map}
use lib.ListN.{take, drop}
use Rattle.basics.specs.Lists.{find_after}
use Rattle.store.specs.Store.{held}
use Rattle.choice.specs.Choice.{eligible}
use Rattle.choice.specs.Seen.{seen_in}
use Rattle.words.specs.Words.{credit_in}
use Rattle.words.specs.Memory.{packets_in}
use Rattle.memory.proofs.lists.choose.Given as goal

abbrev pub invariant-loop-i : goal.invariant-loop-i
invariant-loop-i l =
    (l.seen ≡ seen_in (take l.i (held (packets_in l.q))))
    × (find_after (eligible (map credit_in l.k)) [] (held (packets_in l.q)) 0
    ≡ find_after (eligible (map credit_in l.k)) (take l.i (held (packets_in l.q))) (drop l.i (held (packets_in l.q))) l.i)
