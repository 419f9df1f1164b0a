-- A packet of the direction reaches the receiving half, whole or damaged, or is lost: it is accepted in its order with room to spare, or it is
-- dropped. Assumes nothing.
use Rattle.std.specs.Prelude.{if◌then◌else◌}
use Prim.Native.Nat.{ℕ, suc, ◌+◌, ◌*◌, ◌%◌, ◌≤◌, ◌<◌}
use mathlib.Core.Path.{◌≡◌, refl, sym, ap, ◌∙◌}
use mathlib.Core.Logic.{◌≢◌, by_cases}
use mathlib.Core.Bool.{Bool, true, false}
use mathlib.Core.List.{List, [], ◌∷◌, ◌++◌}
use native.Mathlib.Decide.{ℕ_discrete}
use native.Mathlib.Omega.{arith}
use borrow.Author.Tests.{eqb-true, eqb-false, eq-eqb, ne_eqb, leb-true, leb-false, lt-leb}
use lib.Dec.{leb, eqb}
use lib.ListN.{length, get_or, take}
use lib.Seq.{take-suc}
use Rattle.basics.proofs.All.{all-at}
use Rattle.counters.specs.declared.Seq.{Seq}
use Rattle.counters.specs.declared.Order.{Order}
use Rattle.counters.specs.Wrapped.{plus}
use Rattle.counters.specs.Counters.{seq, order_of}
use Rattle.counters.proofs.Windows.{duplicate}
use Rattle.packets.specs.declared.Packet.{Packet}
use Rattle.packets.specs.declared.Category.{Category}
use Rattle.packets.specs.declared.Category.TheVariants.{Posted, NonPosted, Completion}
use Rattle.packets.specs.Packets.{category_of, packet_answer, need_of}
use Rattle.credits.specs.declared.Room.{Room}
use Rattle.credits.specs.Credits.{received, room_answer}
use Rattle.store.specs.Store.{capacity, held, no_packet, of_category}
use Rattle.store.proofs.Held.{length-held}
use Rattle.store.proofs.Categories.{headers-counted}
use Rattle.frames.specs.declared.Frame.TheVariants as Frame
use Rattle.line.specs.declared.Slot.{Slot}
use Rattle.line.specs.Line.{slot}
use Rattle.setup.specs.declared.Setup.{Setup}
use Rattle.setup.specs.Setup.{channels, per_end, in_range}
use Rattle.sender.specs.declared.Sender.{Sender}
use Rattle.sender.proofs.Slots.{slot_below}
use Rattle.receiver.specs.declared.Reply.{Reply}
use Rattle.receiver.specs.declared.Receiver.{Receiver}
use Rattle.receiver.specs.Receiver.{inbox_at, room_at, with_reply, after_duplicate, after_gap}
use Rattle.delivery.specs.Delivery.{Got}
use Rattle.delivery.specs.Delivery.{got, stored, in_sequence, by_order, arrives, damaged}
use Rattle.receipts.proofs.Arrays.{arrays_stored}
use Rattle.receipts.proofs.Changes.{inbox-stored-other, room-stored-other, reply-stored, held-stored, len_stored, room-stored}
use Rattle.receipts.proofs.Replies.{next-duplicate, next_gap}
use Rattle.orders.proofs.Orders.{count_parts}
use Rattle.amounts.specs.Amounts as A
use Rattle.amounts.specs.Amounts.{Amount, Fits, wrapped, amount_of, together, channel_for, on, slot_for, load, allowed}
use Rattle.amounts.proofs.Wrapped.{wrapped-added, room-accepted}
use Rattle.amounts.proofs.Loads.{load_same, load-other, load-take, on-other}
use Rattle.amounts.proofs.Given.{channel_below}
use Rattle.traffic.proofs.Forth.{Oldest, forth_oldest, forth_lower, forth_rest}
use Rattle.traffic.proofs.Acks.{acks-more}
use Rattle.traffic.proofs.Updates.{updates_le}
use Rattle.direction.specs.Direction.{Past, getting_one, arrived, Waits, Receiving, Rooming, Direction}
use Rattle.direction.proofs.Bounds.{taken_fits, waiting_fits, units_small, arrived_parts}
use Rattle.direction.proofs.Parts.{lines_keep, reply-keeps}
use Rattle.direction.proofs.Waits.{waits_enter}

-- the next, before it or after it, by true numbers
abbrev pub order_by : ℕ → ℕ → Order
order_by t next = if eqb t next then Order.Next else if leb t next then Order.Duplicate else Order.OutOfOrder

order-true : (x y : Seq) (t next : ℕ) → x ≡ seq (next % 4096) → y ≡ seq (t % 4096) → t < next + 16 → next ≤ t + 16 → order_of x y ≡ order_by t next
order-true x y t next e f h k = rw (e, f, same, duplicate next t (omega arith) (omega arith))
  where
    same : eqb (t % 4096) (next % 4096) ≡ eqb t next
    same =
        by_cases (ℕ_discrete t next)
        (λ e. rw (eq-eqb t next e) (eq-eqb (t % 4096) (next % 4096) (ap (λ (n : ℕ). n % 4096) e)))
        (λ n. rw (ne_eqb t next n) (ne_eqb (t % 4096) (next % 4096) (λ e. n (omega arith))))

module _ {link : Setup} {g : Past} {s : Sender} {back : List Slot} {r : Receiver} where
  -- ---- the oldest frame leaves the line, and of the receiving half at most the reply changes, but not next-receive

  pub forth_gone : {x : Slot} {forth : List Slot} (y : Reply) → y.next_receive ≡ r.reply.next_receive
      → Direction link g s (x ∷ forth) r back → Direction link g s forth (with_reply r y) back
  forth_gone y e i = lines_keep (reply-keeps i y e) (forth_rest i.forth_ok) i.acks_ok i.updates_ok

  pub damage-keeps : {x : Slot} {forth : List Slot} → Direction link g s (x ∷ forth) r back → Direction link g s forth (damaged r) back
  unfolding damaged
  damage-keeps i = forth_gone (after_gap r.reply) (next_gap r.reply) i

  pub lose_keeps : {x : Slot} {forth : List Slot} → Direction link g s (x ∷ forth) r back → Direction link g s forth r back
  lose_keeps i = forth_gone r.reply refl i

  -- ---- a packet that arrives whole

  module _ (ok : in_range link ≡ true) {number : Seq} {p : Packet} {forth : List Slot}
      (i : Direction link g s (slot (Frame.Packet number p) ∷ forth) r back) where
    -- what it is in true numbers
    abbrev pub o : Oldest g.sent g.got number p forth
    o = forth_oldest i.forth_ok

    near : (o.t < g.got + 16) × (g.got ≤ o.t + 16)
    near = (omega (arith, o.below, i.numbers), o.recent)

    -- it is the next, before it or after it
    order_is : order_of r.reply.next_receive number ≡ order_by o.t g.got
    order_is = order-true r.reply.next_receive number o.t g.got i.receiving.next_is o.number_is near.0 near.1

    pub arrived-rules : packet_answer p ≡ 0
    arrived-rules =
        eqb-true (packet_answer p) 0
        (rw (← o.packet_is) at (all-at (λ q. eqb (packet_answer q) 0) g.sent o.t no_packet o.below i.sending.formed))

    here : channel_for link p < channels
    here = channel_below link ok p arrived-rules

    small : slot_for link p < per_end
    small = slot_below (channel_for link p) (category_of p) here

    -- ---- in sequence: there is room for it

    module _ (next : o.t ≡ g.got) where
      one_more : take (suc g.got) g.sent ≡ arrived g ++ (p ∷ [])
      one_more =
          let e : p ≡ get_or g.sent g.got no_packet = rw (← next) o.packet_is in
          take-suc g.sent g.got no_packet (omega (arith, o.below)) ∙ rw (← e)

      load-more : load link (take (suc g.got) g.sent) (slot_for link p) ≡ A.plus (load link (arrived g) (slot_for link p)) (amount_of p)
      load-more = rw one_more (load_same link (arrived g) p)

      room_for_lem : Fits (A.plus (load link (arrived g) (slot_for link p)) (amount_of p)) (allowed link g.taken (slot_for link p))
      room_for_lem =
          let x = updates_le i.updates_ok (slot_for link p) in
          let y = i.crediting.within (slot_for link p) in
          let z = rw load-more at (load-take link (suc g.got) g.sent (slot_for link p)) in
          record { h = omega (arith, x.h, y.h, z.h); d = omega (arith, x.d, y.d, z.d) }

      -- 26 is not given
      answer : room_answer (room_at r (slot_for link p)) (need_of p) ≡ 0
      unfolding room_answer allowed
      answer =
          let a = allowed link g.taken (slot_for link p) in
          let b = load link (arrived g) (slot_for link p) in
          let t = taken_fits i (channel_for link p) (category_of p) here in
          let u = units_small link ok (channel_for link p) (category_of p) here in
          rw (i.rooming.allocated_is (slot_for link p) small, i.rooming.received_is (slot_for link p) small)
          (room-accepted a b p true room_for_lem (omega (arith, t.h, u.0)) (omega (arith, t.d, u.1)))

      pub accepted : in_sequence r (channel_for link p) p ≡ got (stored r (channel_for link p) p) 0 1
      unfolding in_sequence
      accepted = rw (lt-leb channels (channel_for link p) here, eq-eqb (room_answer (room_at r (slot_for link p)) (need_of p)) 0 answer)

      -- at most 16 of each category wait, and of its own at most 15
      few : (c : Category) → length (of_category c (held (inbox_at r (channel_for link p)))) ≤ 16
      unfolding together
      few c =
          let w = waiting_fits i (channel_for link p) c here in
          omega (arith, rw (headers-counted (of_category c (held (inbox_at r (channel_for link p))))) at w.h, (units_small link ok (channel_for link p) c here).0)

      fewer : length (of_category (category_of p) (held (inbox_at r (channel_for link p)))) < 16
      unfolding together allowed
      fewer =
          let w = ap (λ (a : Amount). a.h) (arrived_parts i (channel_for link p) (category_of p) here) in
          omega (
            arith,
            rw (headers-counted (of_category (category_of p) (held (inbox_at r (channel_for link p))))) at w,
            room_for_lem.h,
            (units_small link ok (channel_for link p) (category_of p) here).0,
          )

      place : (inbox_at r (channel_for link p)).len < capacity
      place =
          let q = inbox_at r (channel_for link p) in
          omega (arith, length-held q (i.r_arrays.inbox_is (channel_for link p)) (i.receiving.inbox (channel_for link p) here).bound, sum (category_of p) fewer)
        where
          sum : (c : Category) → length (of_category c (held (inbox_at r (channel_for link p)))) < 16 → length (held (inbox_at r (channel_for link p))) < 48
          sum Posted h = omega (arith, count_parts (held (inbox_at r (channel_for link p))), few NonPosted, few Completion)
          sum NonPosted h = omega (arith, count_parts (held (inbox_at r (channel_for link p))), few Posted, few Completion)
          sum Completion h = omega (arith, count_parts (held (inbox_at r (channel_for link p))), few Posted, few NonPosted)

      held-here : held (inbox_at (stored r (channel_for link p) p) (channel_for link p)) ≡ held (inbox_at r (channel_for link p)) ++ (p ∷ [])
      held-here = held-stored r i.r_arrays (channel_for link p) here p place

      waits_here : Waits link (channel_for link p) (on link (channel_for link p) (arrived g ++ (p ∷ []))) (on link (channel_for link p) g.taken)
          (inbox_at (stored r (channel_for link p) p) (channel_for link p))
      waits_here =
          waits_enter link (arrived g) p (i.receiving.inbox (channel_for link p) here) arrived-rules place
          (len_stored r i.r_arrays (channel_for link p) here p place) held-here

      -- by slot: the one that it is charged to, or another
      by_slot_lem : (P : ℕ → Room → Type 0) → P (slot_for link p) (received (room_at r (slot_for link p)) (need_of p))
          → ((k : ℕ) → k ≢ slot_for link p → P k (room_at r k)) → (k : ℕ) → P k (room_at (stored r (channel_for link p) p) k)
      by_slot_lem P same others k =
          by_cases (ℕ_discrete k (slot_for link p))
          (λ e. rw (e, room-stored r i.r_arrays (channel_for link p) here p) same)
          (λ n. rw (room-stored-other r (channel_for link p) k p n) (others k n))

      accept_receiving : Receiving link (take (suc g.got) g.sent) g.taken (suc g.got) (stored r (channel_for link p) p)
      unfolding plus received
      accept_receiving =
          record {
            next_is = rw (reply-stored r (channel_for link p) p, i.receiving.next_is) (ap seq (omega arith));
            inbox = λ channel h.
                by_cases (ℕ_discrete channel (channel_for link p))
                (λ e. rw (e, one_more) waits_here)
                (λ n.
                rw (inbox-stored-other r (channel_for link p) channel p n, one_more, on-other link channel (arrived g) p (λ e. n (sym e)))
                (i.receiving.inbox channel h));
            known = i.receiving.known;
            marks =
                by_slot_lem (λ k x. k < per_end → x.marked ≡ true → k < 3 * link.n)
                (λ h m. i.receiving.marks (slot_for link p) h m)
                (λ k n h m. i.receiving.marks k h m);
          }

      accept_rooming : Rooming link (take (suc g.got) g.sent) g.taken (stored r (channel_for link p) p)
      unfolding received
      accept_rooming =
          record {
            allocated_is =
                by_slot_lem (λ k x. k < per_end → x.allocated ≡ wrapped (allowed link g.taken k))
                (λ h. i.rooming.allocated_is (slot_for link p) h)
                (λ k n h. i.rooming.allocated_is k h);
            received_is =
                by_slot_lem (λ k x. k < per_end → x.received ≡ wrapped (load link (take (suc g.got) g.sent) k))
                (λ h. rw (load-more, i.rooming.received_is (slot_for link p) h) (wrapped-added (load link (arrived g) (slot_for link p)) p))
                (λ k n h. rw (one_more, load-other link (arrived g) p k n) (i.rooming.received_is k h));
          }

      pub accept_keeps : Direction link (getting_one g) s forth (stored r (channel_for link p) p) back
      accept_keeps =
          record {
            s_arrays = i.s_arrays;
            r_arrays = arrays_stored r i.r_arrays (channel_for link p) p;
            numbers = record { low = omega (arith, i.numbers.low); mid = omega (arith, o.below); high = i.numbers.high };
            sending = i.sending;
            crediting = i.crediting;
            receiving = accept_receiving;
            rooming = accept_rooming;
            forth_ok = forth_lower (omega arith) o.rest;
            acks_ok = acks-more (omega arith) i.acks_ok;
            updates_ok = i.updates_ok;
          }

    -- ---- what comes of it: accepted, duplicate or out of order, by its true number t

    pub data Comes : Got → Type 0 where
      is-next : o.t ≡ g.got → Direction link (getting_one g) s forth (stored r (channel_for link p) p) back
          → Comes (got (stored r (channel_for link p) p) 0 1)
      is_old : o.t < g.got → Direction link g s forth (with_reply r (after_duplicate r.reply)) back
          → Comes (got (with_reply r (after_duplicate r.reply)) 0 2)
      is_ahead : g.got < o.t → Direction link g s forth (with_reply r (after_gap r.reply)) back
          → Comes (got (with_reply r (after_gap r.reply)) 0 3)

    pub arrive_view : Comes (arrives r (channel_for link p) number p)
    unfolding arrives
    arrive_view = rw order_is (go (eqb o.t g.got) refl (leb o.t g.got) refl)
      where
        go : (b : Bool) → eqb o.t g.got ≡ b → (d : Bool) → leb o.t g.got ≡ d
            → Comes (by_order r (channel_for link p) p (if b then Order.Next else if d then Order.Duplicate else Order.OutOfOrder))
        go true e d f = let z = eqb-true o.t g.got e in rw (accepted z) (is-next z (accept_keeps z))
        go false e true f =
            is_old (omega (arith, eqb-false o.t g.got e, leb-true o.t g.got f)) (forth_gone (after_duplicate r.reply) (next-duplicate r.reply) i)
        go false e false f = is_ahead (leb-false o.t g.got f) (forth_gone (after_gap r.reply) (next_gap r.reply) i)
