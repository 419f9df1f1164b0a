-- `memory::lists::count_of` meets its contract. The loop's invariant: what was counted and what is left make the whole.
-- Assumes nothing.
use Rattle.std.specs.Prelude.{if◌then◌else◌}
use Prim.Native.Nat.{◌≤◌}
use native.Mathlib.Omega.{arith}
use mathlib.Core.Bool.{Bool, true, false}
use mir.Val.{bool_byte}
use mathlib.Core.Path.{◌≡◌, refl, ap, ◌∙◌}
use lib.ListN.{length, take, get_or}
use lib.Seq.{length-take-le, get_or-take}
use Rattle.basics.proofs.Walk.{total-next, total-end}
use Rattle.packets.specs.Packets.{header_units}
use Rattle.store.specs.Store.{held, no_packet, is_of}
use Rattle.store.proofs.Categories.{share, count_of}
use Rattle.words.specs.Words.{packet_in}
use Rattle.words.specs.Memory.{packets_in}
use Rattle.memory.proofs.ListsLaws.{item_is}
use Rattle.memory.proofs.lists.count_of.Goals as goal

-- the number of a test
as_number : (b : Bool) → (bool_byte b ≡ (if b then 1 else 0)) × (bool_byte b ≤ 1)
as_number true = (refl, omega arith)
as_number false = (refl, omega arith)

pub loop-w-preserved : goal.loop-w-preserved
loop-w-preserved c =
    let q = packets_in c.args.q.now in
    let f = share header_units c.args.c in
    let few : length (take c.size.result c.args.q.now) ≡ c.size.result = length-take-le c.size.result c.args.q.now (omega (arith, c.size.ensures.upper_bound)) in
    let next = total-next q.items q.len c.loop-w.w-index no_packet (omega (arith, few, c.size.ensures.value)) f in
    let here = rw (item_is c.args.q.now c.requires c.loop-w.w-index (omega (arith, few, c.size.ensures.upper_bound))) at next in
    let same : c.is_of.result ≡ is_of c.args.c (packet_in (get_or c.args.q.now c.loop-w.w-index 0))
    = c.is_of.ensures ∙ ap (λ w. is_of c.args.c (packet_in w)) (get_or-take c.size.result c.args.q.now c.loop-w.w-index 0 (omega (arith, few))) in
    let one : c.from-n.result ≡ share header_units c.args.c (packet_in (get_or c.args.q.now c.loop-w.w-index 0))
    = c.from-n.ensures ∙ (as_number c.is_of.result).0 ∙ ap (λ (b : Bool). if b then 1 else 0) same in
    let small : c.from-n.result ≤ 1 = rw c.from-n.ensures (as_number c.is_of.result).1 in
    (omega arith, omega (arith, here, one, c.loop-w.invariant.1))

pub returns : goal.returns
returns c =
    let ps = held (packets_in c.args.q.now) in
    let few : length (take c.size.result c.args.q.now) ≡ c.size.result = length-take-le c.size.result c.args.q.now (omega (arith, c.size.ensures.upper_bound)) in
    let e = total-end ps c.loop-w.w-index (omega (arith, few, c.size.ensures.value)) (share header_units c.args.c) in
    omega (arith, e, count_of c.args.c ps)
