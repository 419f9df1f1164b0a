-- What a direction says of its packets: taken, waiting, on the way and waiting to be sent are together those accepted, and posted ones go first.
-- Assumes nothing.
use Prim.Native.Nat.{ℕ, ◌+◌, ◌-◌, ◌%◌, ◌<◌}
use mathlib.Core.Path.{◌≡◌, sym, ap, ◌∙◌}
use mathlib.Core.Bool.{false}
use mathlib.Core.List.{List, ◌∷◌, ◌++◌, append_assoc}
use native.Mathlib.Omega.{arith}
use lib.ListN.{length, take, drop, take-append-drop}
use lib.Seq.{drop-drop, take-append-le, take-append_seam}
use Rattle.basics.proofs.Filters.{filter-append}
use Rattle.counters.specs.Wrapped.{plus, minus}
use Rattle.counters.specs.Counters.{seq_range, next_of}
use Rattle.counters.proofs.Wrap.{minus_ahead}
use Rattle.packets.specs.declared.Packet.{Packet}
use Rattle.packets.specs.declared.Category.{Category}
use Rattle.packets.specs.declared.Category.TheVariants.{Posted}
use Rattle.packets.specs.Packets.{category_of}
use Rattle.store.specs.Store.{held, is_of, of_category}
use Rattle.line.specs.declared.Slot.{Slot}
use Rattle.setup.specs.declared.Setup.{Setup}
use Rattle.setup.specs.Setup.{channels}
use Rattle.sender.specs.declared.Sender.{Sender}
use Rattle.sender.specs.Sender.{queue_at}
use Rattle.receiver.specs.declared.Receiver.{Receiver}
use Rattle.receiver.specs.Receiver.{inbox_at}
use Rattle.orders.specs.Orders.{Orders}
use Rattle.orders.proofs.Orders.{orders-all, posted_first}
use Rattle.amounts.specs.Amounts.{is_on, on}
use Rattle.direction.specs.Direction.{Past, arrived, on_the_way, Direction}

module _ {link : Setup} {g : Past} {s : Sender} {forth back : List Slot} {r : Receiver} (i : Direction link g s forth r back) where
  -- those sent and not yet received are the replay buffer's without those before next-receive
  pub way_is : drop (minus seq_range r.reply.next_receive.0 (next_of s.acked).0) (held s.buffer) ≡ on_the_way g
  unfolding plus
  way_is =
      let a : ((g.acked + 4095) % 4096 + 1) % 4096 ≡ g.acked % 4096 = omega arith in
      let d : minus seq_range (g.got % 4096) (g.acked % 4096) ≡ g.got - g.acked = minus_ahead 4096 (omega arith) g.got g.acked i.numbers.low (omega (arith, i.numbers)) in
      let k : g.acked + (g.got - g.acked) ≡ g.got = omega (arith, i.numbers) in
      rw (i.receiving.next_is, i.sending.acked_is, a, d, i.sending.buffer_is, drop-drop, k)

  module _ (channel : ℕ) (here : channel < channels) where
    -- those sent are those that arrived and those on the way
    sent_parts : on link channel g.sent ≡ on link channel (arrived g) ++ on link channel (on_the_way g)
    sent_parts = sym (ap (on link channel) (take-append-drop g.got g.sent)) ∙ filter-append (is_on link channel) (arrived g) (on_the_way g)

    queued : Orders (on link channel g.accepted) (on link channel (arrived g) ++ on link channel (on_the_way g)) (held (queue_at s channel))
    queued = rw sent_parts at (i.sending.queue channel here).orders

    waiting : Orders (on link channel (arrived g)) (on link channel g.taken) (held (inbox_at r channel))
    waiting = (i.receiving.inbox channel here).orders

    pub all_there : (c : Category)
        → of_category c (on link channel g.taken) ++ of_category c (held (inbox_at r channel)) ++ of_category c (on link channel (on_the_way g)) ++ of_category c (held (queue_at s channel))
        ≡ of_category c (on link channel g.accepted)
    all_there c = orders-all (on link channel (on_the_way g)) queued waiting c

    -- where more of q's category are taken than were accepted before q, so q itself, the posted ones accepted before q are the first ones taken
    pub posted_taken : (older younger : List Packet) (q : Packet) → on link channel g.accepted ≡ older ++ (q ∷ younger) → is_of Posted q ≡ false
        → length (of_category (category_of q) older) < length (of_category (category_of q) (on link channel g.taken))
        → take (length (of_category Posted older)) (of_category Posted (on link channel g.taken)) ≡ of_category Posted older
    posted_taken older younger q is nonposted h =
        let few = posted_first (on link channel (on_the_way g)) queued waiting older younger q is nonposted h in
        let parts : of_category Posted (on link channel g.taken) ++ (of_category Posted (held (inbox_at r channel)) ++ (of_category Posted (on link channel (on_the_way g)) ++ of_category Posted (held (queue_at s channel)))) ≡ of_category Posted older ++ of_category Posted (q ∷ younger) =
        simp append_assoc at (all_there Posted) ∙ ap (of_category Posted) is ∙ filter-append (is_of Posted) older (q ∷ younger) in
        sym (take-append-le (length (of_category Posted older)) (of_category Posted (on link channel g.taken)) _ few)
        ∙ ap (take (length (of_category Posted older))) parts
        ∙ take-append_seam (of_category Posted older) (of_category Posted (q ∷ younger))
