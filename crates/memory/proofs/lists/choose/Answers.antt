-- `memory::lists::choose` meets its contract. The loop's invariant: what is found from i on is what is found from the front, and
-- `seen` says which categories the packets before i are of.
-- Assumes nothing.
use native.Mathlib.Omega.{arith}
use Prim.Native.Nat.{◌<◌}
use mathlib.Core.Path.{◌≡◌, refl, sym, ap, ◌∙◌}
use mathlib.Core.Bool.{Bool}
use mathlib.Core.List.{List, map}
use lib.ListN.{length, take}
use lib.Seq.{length-take-le, get_or-take}
use Rattle.basics.proofs.Walk.{front_snoc, find_after-here, find_after-next, find_after-end}
use Rattle.store.specs.Store.{held, no_packet}
use Rattle.packets.specs.declared.Packet.{Packet}
use Rattle.packets.specs.declared.Category.{Category}
use Rattle.packets.specs.Packets.{category_of}
use Rattle.credits.specs.declared.Credit.{Credit}
use Rattle.choice.specs.declared.Seen.{Seen}
use Rattle.choice.specs.Choice.{eligible, chosen, credit_of}
use Rattle.choice.specs.Seen.{seen_in, may_go}
use Rattle.choice.proofs.Passed.{seeing_one, lets-eligible}
use Rattle.words.specs.Words.{packet_in, credit_in}
use Rattle.words.specs.Memory.{packets_in}
use Rattle.memory.proofs.ListsLaws.{item_is}
use Rattle.memory.proofs.lists.choose.Goals as goal

-- the code's test of a packet is the definition's, where what it asks is what the definition asks of that packet
tested : (credits : List Credit) (older : List Packet) {item p : Packet} {seen : Seen} {c : Category} {credit : Credit} {x : Bool}
    → item ≡ p → seen ≡ seen_in older → c ≡ category_of p → credit ≡ credit_of credits c → x ≡ may_go seen c credit p → eligible credits older item ≡ x
tested credits older {p = p} is passed of own lets = rw is (sym (lets ∙ rw (passed, own, of) (lets-eligible credits older p)))

pub loop-i-init : goal.loop-i-init
loop-i-init c = (c.none-seen.ensures, refl)

pub returns-then-lets : goal.returns-then-lets
unfolding chosen
returns-then-lets c =
    let q = packets_in c.args.q.now in
    let few : length (take c.size.result c.args.q.now) ≡ c.size.result = length-take-le c.size.result c.args.q.now (omega (arith, c.size.ensures.upper_bound)) in
    let read = item_is c.args.q.now c.requires.0 c.loop-i.i (omega (arith, few, c.size.ensures.upper_bound)) ∙ sym (c.from_word-p.ensures ∙ ap packet_in (get_or-take c.size.result c.args.q.now c.loop-i.i 0 (omega (arith, few)))) in
    sym (c.loop-i.invariant.1
    ∙ find_after-here q.items q.len c.loop-i.i no_packet (omega (arith, few, c.size.ensures.value)) (eligible (map credit_in c.args.k.now)) (tested (map credit_in c.args.k.now) (take c.loop-i.i (held q)) read c.loop-i.invariant.0 c.category-c.ensures c.credit_for.ensures c.lets.ensures ∙ c.if-lets.true))

pub loop-i-preserved : goal.loop-i-preserved
loop-i-preserved c =
    let q = packets_in c.args.q.now in
    let few : length (take c.size.result c.args.q.now) ≡ c.size.result = length-take-le c.size.result c.args.q.now (omega (arith, c.size.ensures.upper_bound)) in
    let read = item_is c.args.q.now c.requires.0 c.loop-i.i (omega (arith, few, c.size.ensures.upper_bound)) ∙ sym (c.from_word-p.ensures ∙ ap packet_in (get_or-take c.size.result c.args.q.now c.loop-i.i 0 (omega (arith, few)))) in
    let h : c.loop-i.i < length (held (packets_in c.args.q.now)) = omega (arith, few, c.size.ensures.value) in (
      c.with-seen.ensures
          ∙ rw (c.loop-i.invariant.0, c.category-c.ensures, ← read) (seeing_one _ _ ∙ ap seen_in (sym (front_snoc q.items q.len c.loop-i.i no_packet h))),
      c.loop-i.invariant.1
          ∙ find_after-next q.items q.len c.loop-i.i no_packet h (eligible (map credit_in c.args.k.now)) (tested (map credit_in c.args.k.now) (take c.loop-i.i (held q)) read c.loop-i.invariant.0 c.category-c.ensures c.credit_for.ensures c.lets.ensures ∙ c.if-lets.false),
    )

pub returns : goal.returns
unfolding chosen
returns c =
    let ps = held (packets_in c.args.q.now) in
    let few : length (take c.size.result c.args.q.now) ≡ c.size.result = length-take-le c.size.result c.args.q.now (omega (arith, c.size.ensures.upper_bound)) in
    sym (c.loop-i.invariant.1
    ∙ find_after-end ps c.loop-i.i (omega (arith, few, c.size.ensures.value)) (eligible (map credit_in c.args.k.now)) (take c.loop-i.i ps))
