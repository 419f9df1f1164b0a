-- A packet that comes or goes keeps the receiving half's part of the shape: free room and the units waiting still add up, and the 48 places suffice.
-- And what the half says is in range. The setup is in range where that is said. Assumes nothing else.
use Rattle.std.specs.Prelude.{Some, None, Option, ℕ}
use Prim.Native.Nat.{ℕ, ◌+◌, ◌*◌, ◌/◌, ◌≤◌, ◌<◌}
use mathlib.Core.Path.{◌≡◌, refl}
use mathlib.Core.Logic.{◌≢◌, by_cases}
use mathlib.Core.Bool.{true, false, not}
use mathlib.Core.List.{List, [], ◌∷◌, ◌++◌}
use native.Mathlib.Decide.{ℕ_discrete}
use native.Mathlib.Omega.{arith}
use borrow.Author.Tests.{lt-ltb, ltb-true, le-leb, leb-true, leb-false, eq-eqb, eqb-true, eqb-false, not-false}
use lib.Dec.{leb, eqb}
use lib.ListN.{length, take, drop}
use Rattle.basics.specs.Lists.{all, find}
use Rattle.basics.proofs.All.{all_snoc, all_without}
use Rattle.basics.proofs.Branches.{by_test, and_left, and_right}
use Rattle.basics.proofs.Each.{by_bool}
use Rattle.basics.proofs.Filters.{filter_snoc_in, filter_snoc_out, filter_first, filter-other}
use Rattle.basics.proofs.Finds.{found_first}
use Rattle.counters.specs.declared.Counts.{Counts}
use Rattle.counters.specs.declared.Seq.{Seq}
use Rattle.counters.specs.declared.Order.{Order}
use Rattle.counters.specs.declared.Order.TheVariants as Order
use Rattle.counters.specs.Counters.{next_of, before_of, order_of, added}
use Rattle.counters.specs.Wrapped.{plus}
use Rattle.counters.proofs.Wrap.{minus_below}
use Rattle.credits.specs.declared.Room.{Room}
use Rattle.credits.specs.Credits.{free_of, room_answer, received, given_back}
use Rattle.packets.specs.declared.Packet.{Packet}
use Rattle.packets.specs.declared.Category.{Category}
use Rattle.packets.specs.declared.Category.TheVariants.{Posted, NonPosted, Completion}
use Rattle.packets.specs.Packets.{number_of, numbered, same, category_of, slot_of, packet_answer, data_together, need_of}
use Rattle.packets.proofs.Numbers.{number_below}
use Rattle.frames.specs.declared.Frame.TheVariants as Frame
use Rattle.frames.specs.declared.Message.TheVariants as Message
use Rattle.frames.specs.Frames as F
use Rattle.frames.specs.Frames.{number_in_range, frame_answer}
use Rattle.store.specs.declared.Packets.{Packets}
use Rattle.store.specs.Store.{capacity, held, at, no_packet, is_of, of_category}
use Rattle.store.proofs.Held.{length-held}
use Rattle.store.proofs.Categories.{own_category, same-category}
use Rattle.setup.specs.declared.Setup.{Setup}
use Rattle.setup.specs.Setup.{channels, per_end, in_range, channel_of, units_at}
use Rattle.setup.proofs.Range.{units_fit_lem, fit_small}
use Rattle.sender.proofs.Slots.{slot_below, slot_channel}
use Rattle.receiver.specs.declared.Receiver.{Receiver}
use Rattle.receiver.specs.Receiver.{inbox_at, room_at, after_duplicate, after_gap, first_marked, update_frame}
use Rattle.delivery.specs.Delivery.{Got}
use Rattle.delivery.specs.Delivery.{stored, in_sequence, by_order, arrives, handed_out, is_before, taken_at, taken_by, take_of}
use Rattle.receipts.proofs.Arrays.{Arrays, arrays_stored, arrays_handed}
use Rattle.receipts.proofs.Changes.{inbox-stored-other, room-stored-other, reply-stored, held-stored, len_stored, room-stored, inbox_handed_other, room_handed_other, reply_handed, held_handed, len_handed, room_handed}
use Rattle.receipts.proofs.Marks.{first_marked_lem, channel_in_lem}
use Rattle.receipts.proofs.Replies.{next_gap}
use Rattle.orders.proofs.Orders.{count_parts}
use Rattle.traffic.proofs.Range.{wraps}
use Rattle.shape.specs.Shape.{inbox_bound, is_on, all_on, well_formed, all_formed, counts_fit, room_fits, mark_in_use, category_adds_up}
use Rattle.lasting.proofs.Receiving.{ReceivingKept, reply_kept, parts, room_for_lem, adds_received, adds_given}

-- ---- one channel's receive buffer and one of its rooms change

module _ {link : Setup} {r r' : Receiver} (k : ReceivingKept link r) (a : Arrays r') (channel : ℕ) (c : Category)
    (inbox-other : (j : ℕ) → j ≢ channel → inbox_at r' j ≡ inbox_at r j)
    (room-other : (j : ℕ) → j ≢ slot_of channel c → room_at r' j ≡ room_at r j)
    (others : (d : Category) → same c d ≡ false → of_category d (held (inbox_at r' channel)) ≡ of_category d (held (inbox_at r channel))) where
  -- what holds there and held elsewhere holds everywhere
  by_channel : (P : ℕ → Packets → Type 0) → P channel (inbox_at r' channel) → ((j : ℕ) → j < channels → P j (inbox_at r j))
      → (j : ℕ) → j < channels → P j (inbox_at r' j)
  by_channel P here were j h = by_cases (ℕ_discrete j channel) (λ e. rw e here) (λ n. rw (inbox-other j n) (were j h))

  by_slot_lem : (P : ℕ → Room → Type 0) → P (slot_of channel c) (room_at r' (slot_of channel c)) → ((j : ℕ) → j < per_end → P j (room_at r j))
      → (j : ℕ) → j < per_end → P j (room_at r' j)
  by_slot_lem P here were j h = by_cases (ℕ_discrete j (slot_of channel c)) (λ e. rw e here) (λ n. rw (room-other j n) (were j h))

  by_category : category_adds_up link r' channel c ≡ true → (j : ℕ) (d : Category) → j < channels → category_adds_up link r' j d ≡ true
  unfolding category_adds_up
  by_category here j d h =
      by_cases (ℕ_discrete j channel)
      (λ e.
      by_bool (same c d)
      (λ t. rw (e, ← same-category c d t) here)
      (λ t.
      rw (e, room-other (slot_of channel d) (λ z. eqb-false (number_of c) (number_of d) t (omega arith)), others d t)
      (k.adds channel d (rw e at h))))
      (λ n. rw (room-other (slot_of j d) (λ e. n (slot_channel j channel d c e)), inbox-other j n) (k.adds j d h))

  changed_kept : (inbox_at r' channel).len ≤ capacity → all_on link channel (inbox_at r' channel) ≡ true → all_formed (inbox_at r' channel) ≡ true
      → room_fits (room_at r' (slot_of channel c)) ≡ true → mark_in_use link.n (slot_of channel c) (room_at r' (slot_of channel c)) ≡ true
      → number_in_range r'.reply.next_receive ≡ true → category_adds_up link r' channel c ≡ true
      → ReceivingKept link r'
  changed_kept bound on formed fit marks next adds =
      record {
        arrays = a;
        bound = by_channel (λ j q. inbox_bound q ≡ true) (le-leb (inbox_at r' channel).len capacity bound) k.bound;
        on = by_channel (λ j q. all_on link j q ≡ true) on k.on;
        formed = by_channel (λ j q. all_formed q ≡ true) formed k.formed;
        fit = by_slot_lem (λ j m. room_fits m ≡ true) fit k.fit;
        marks = by_slot_lem (λ j m. mark_in_use link.n j m ≡ true) marks k.marks;
        next = next;
        adds = by_category adds;
      }

-- ---- the rooms and the numbers stay in their range

next_fits : (x : Seq) → number_in_range (next_of x) ≡ true
unfolding plus
next_fits x = wraps (x.0 + 1)

module _ (m : Room) (need : Counts) (fit : room_fits m ≡ true) where
  received_fits : room_fits (received m need) ≡ true
  unfolding received added plus
  received_fits =
      rw (and_left (counts_fit m.allocated) (counts_fit m.received) fit) (wraps (m.received.d.0 + need.d.0))

  given_fits : room_fits (given_back m need) ≡ true
  unfolding given_back added plus
  given_fits =
      rw (wraps (m.allocated.d.0 + need.d.0)) (and_right (counts_fit m.allocated) (counts_fit m.received) fit)

-- ---- a packet comes

module _ {link : Setup} {r : Receiver} (ok : in_range link ≡ true) (k : ReceivingKept link r) (channel : ℕ) (here : channel < channels) where
  units-few : (c : Category) → ((units_at link 0 channel (number_of c)).header ≤ 16) × ((units_at link 0 channel (number_of c)).payload ≤ 2047)
  units-few c = fit_small _ _ (units_fit_lem link ok 0 channel (number_of c) (omega arith) here (number_below c))

  abbrev waiting : List Packet
  waiting = held (inbox_at r channel)

  adds_parts : (c : Category)
      → ((free_of (room_at r (slot_of channel c))).h.0 + length (of_category c waiting) ≡ (units_at link 0 channel (number_of c)).header)
      × ((free_of (room_at r (slot_of channel c))).d.0 + data_together (of_category c waiting) ≡ (units_at link 0 channel (number_of c)).payload)
  unfolding category_adds_up
  adds_parts c = parts (room_at r (slot_of channel c)) (of_category c waiting) (units_at link 0 channel (number_of c)) (k.adds channel c here)

  within_48 : (inbox_at r channel).len ≤ capacity
  within_48 = leb-true (inbox_at r channel).len capacity (k.bound channel here)

  -- at most 16 of each category wait
  few : (c : Category) → length (of_category c waiting) ≤ 16
  few c = omega (arith, (adds_parts c).0, (units-few c).0)

  module _ (p : Packet) (room : room_answer (room_at r (slot_of channel (category_of p))) (need_of p) ≡ 0) where
    -- and of its own at most 15
    fewer : length (of_category (category_of p) waiting) < 16
    fewer =
        omega (
          arith,
          (adds_parts (category_of p)).0,
          (units-few (category_of p)).0,
          (room_for_lem (room_at r (slot_of channel (category_of p))) p room).0,
        )

    space : (inbox_at r channel).len < capacity
    space = omega (arith, length-held (inbox_at r channel) (k.arrays.inbox_is channel) within_48, sum (category_of p) fewer)
      where
        sum : (c : Category) → length (of_category c waiting) < 16 → length waiting < 48
        sum Posted h = omega (arith, count_parts waiting, few NonPosted, few Completion)
        sum NonPosted h = omega (arith, count_parts waiting, few Posted, few Completion)
        sum Completion h = omega (arith, count_parts waiting, few Posted, few NonPosted)

    held_now : held (inbox_at (stored r channel p) channel) ≡ waiting ++ (p ∷ [])
    held_now = held-stored r k.arrays channel here p space

    room_now : room_at (stored r channel p) (slot_of channel (category_of p)) ≡ received (room_at r (slot_of channel (category_of p))) (need_of p)
    room_now = room-stored r k.arrays channel here p

    stored_adds : category_adds_up link (stored r channel p) channel (category_of p) ≡ true
    unfolding category_adds_up
    stored_adds =
        rw (room_now, held_now, filter_snoc_in (is_of (category_of p)) waiting p (own_category p))
        (adds_received (room_at r (slot_of channel (category_of p))) (of_category (category_of p) waiting) p
        (units_at link 0 channel (number_of (category_of p))) (k.adds channel (category_of p) here) room)

    stored_kept : channel_of link p.class ≡ channel → packet_answer p ≡ 0 → ReceivingKept link (stored r channel p)
    unfolding received
    stored_kept is rules =
        let slot = slot_of channel (category_of p) in
        let small = slot_below channel (category_of p) here in
        changed_kept k (arrays_stored r k.arrays channel p) channel (category_of p)
        (λ j n. inbox-stored-other r channel j p n)
        (λ j n. room-stored-other r channel j p n)
        (λ d t. rw (held_now, filter_snoc_out (is_of d) waiting p t))
        (omega (arith, len_stored r k.arrays channel here p space, space))
        (rw (held_now, all_snoc (is_on link channel) waiting p, k.on channel here) (eq-eqb _ _ is))
        (rw (held_now, all_snoc well_formed waiting p, k.formed channel here) (eq-eqb _ _ rules))
        (rw room_now (received_fits (room_at r slot) (need_of p) (k.fit slot small)))
        (rw room_now (k.marks slot small))
        (rw (reply-stored r channel p) (next_fits r.reply.next_receive))
        stored_adds

  -- ---- a packet goes: the first of its category

  module _ (c : Category) (place : ℕ) (used : channel < link.n) (found : find (is_of c) waiting 0 ≡ Some place) where
    abbrev it : Packet
    it = at (inbox_at r channel) place

    first : (place < length waiting) × (is_of c it ≡ true) × (all (λ p. not (is_of c p)) (take place waiting) ≡ true)
    first = found_first no_packet (is_of c) waiting place found

    inside : place < (inbox_at r channel).len
    inside = omega (arith, first.0, length-held (inbox_at r channel) (k.arrays.inbox_is channel) within_48)

    held-left : held (inbox_at (handed_out r channel c place) channel) ≡ take place waiting ++ drop (place + 1) waiting
    held-left = held_handed r k.arrays channel here c place inside within_48

    room-left : room_at (handed_out r channel c place) (slot_of channel c) ≡ given_back (room_at r (slot_of channel c)) (need_of it)
    room-left = room_handed r k.arrays channel here c place

    handed_adds : category_adds_up link (handed_out r channel c place) channel c ≡ true
    unfolding category_adds_up
    handed_adds =
        rw (room-left, held-left)
        (adds_given (room_at r (slot_of channel c)) (of_category c (take place waiting ++ drop (place + 1) waiting)) it
        (units_at link 0 channel (number_of c)) (units-few c).0 (units-few c).1
        (rw (filter_first (is_of c) waiting place no_packet first.0 first.1 first.2) at (k.adds channel c here)))

    other-left : (d : Category) → same c d ≡ false
        → of_category d (held (inbox_at (handed_out r channel c place) channel)) ≡ of_category d waiting
    other-left d t =
        rw held-left
        (filter-other (is_of d) waiting place no_packet first.0 (rw (same-category (category_of it) c first.1) t))

    handed_kept : ReceivingKept link (handed_out r channel c place)
    unfolding given_back
    handed_kept =
        let slot = slot_of channel c in
        let small = slot_below channel c here in
        let below : slot_of channel c < 3 * link.n = omega (arith, number_below c) in
        changed_kept k (arrays_handed r k.arrays channel c place) channel c
        (λ j n. inbox_handed_other r channel j c place n)
        (λ j n. room_handed_other r channel j c place n)
        other-left
        (omega (arith, len_handed r k.arrays channel here c place inside within_48, within_48))
        (rw held-left (all_without (is_on link channel) place (place + 1) waiting (k.on channel here)))
        (rw held-left (all_without well_formed place (place + 1) waiting (k.formed channel here)))
        (rw room-left (given_fits (room_at r slot) (need_of it) (k.fit slot small)))
        (rw (room-left, lt-ltb _ _ below))
        (rw (reply_handed r channel c place) k.next)
        handed_adds

-- ---- Arrive and Take, whatever comes of them

module _ {link : Setup} {r : Receiver} (ok : in_range link ≡ true) (k : ReceivingKept link r) where
  abbrev Keeps : Got → Type 0
  Keeps g = ReceivingKept link g.receiver

  module _ (p : Packet) (rules : packet_answer p ≡ 0) where
    sequence_kept : Keeps (in_sequence r (channel_of link p.class) p)
    unfolding in_sequence
    sequence_kept =
        let channel = channel_of link p.class in
        let answer = room_answer (room_at r (slot_of channel (category_of p))) (need_of p) in
        by_test Keeps (leb channels channel) (λ t. k)
        (λ t. by_test Keeps (not (eqb answer 0)) (λ u. k)
        (λ u. stored_kept ok k channel (leb-false channels channel t) p (eqb-true answer 0 (not-false _ u)) refl rules))

    order_kept : (o : Order) → Keeps (by_order r (channel_of link p.class) p o)
    order_kept Order.Next = sequence_kept
    order_kept Order.Duplicate = reply_kept k (after_duplicate r.reply) k.next
    order_kept Order.OutOfOrder = reply_kept k (after_gap r.reply) (rw (next_gap r.reply) k.next)

  pub arrives_kept : (number : Seq) (p : Packet) → packet_answer p ≡ 0 → ReceivingKept link (arrives r (channel_of link p.class) number p).receiver
  unfolding arrives
  arrives_kept number p rules = order_kept p rules (order_of r.reply.next_receive number)

  module _ (channel : ℕ) (used : channel < link.n) (here : channel < channels) where
    found_kept : (c : Category) (f : Option ℕ) → find (is_of c) (held (inbox_at r channel)) 0 ≡ f → Keeps (taken_at r channel c f)
    unfolding taken_at
    found_kept c None e = k
    found_kept c (Some place) e =
        by_test Keeps (is_before (find (is_of Posted) (held (inbox_at r channel)) 0) place) (λ t. k)
        (λ t. handed_kept ok k channel here c place used e)

    taken_kept : (x : Option Category) → Keeps (taken_by r channel x)
    taken_kept (Some c) = found_kept c (find (is_of c) (held (inbox_at r channel)) 0) refl
    taken_kept None = k

  pub take_kept : (channel category : ℕ) → ReceivingKept link (take_of r link.n channel category).receiver
  unfolding take_of
  take_kept channel category =
      by_test Keeps (leb link.n channel) (λ t. k)
      (λ t. by_test Keeps (leb channels channel) (λ u. k)
      (λ u. taken_kept channel (leb-false link.n channel t) (leb-false channels channel u) (numbered category)))

-- ---- what the half says is in range

before_fits : (x : Seq) → number_in_range (before_of x) ≡ true
before_fits x = lt-ltb _ _ (minus_below 4096 (omega arith) x.0 1)

module _ (n : ℕ) (next : Seq) where
  pub ack-in_range : frame_answer n (Frame.Message (Message.Ack (before_of next))) ≡ 0
  unfolding F.in_range
  ack-in_range = rw (before_fits next)

  pub nak-in_range : frame_answer n (Frame.Message (Message.Nak (before_of next))) ≡ 0
  unfolding F.in_range
  nak-in_range = rw (before_fits next)

-- a mark that may stand is on a channel in use
mark_below : (n slot : ℕ) (m : Room) → m.marked ≡ true → mark_in_use n slot m ≡ true → slot < 3 * n
mark_below n slot m e h = ltb-true slot (3 * n) (rw e at h)

pub update_in_range_lem : {link : Setup} {r : Receiver} → ReceivingKept link r → (i : ℕ) → first_marked r ≡ Some i
    → frame_answer link.n (update_frame r i) ≡ 0
unfolding F.in_range update_frame
update_in_range_lem {link} {r} k i found =
    let f = first_marked_lem r k.arrays i found in
    let low = mark_below link.n i (room_at r i) f.1 (k.marks i f.0) in
    let below : i / 3 < link.n = omega arith in
    rw (channel_in_lem i f.0, lt-ltb (i / 3) link.n below, and_left (counts_fit (room_at r i).allocated) (counts_fit (room_at r i).received) (k.fit i f.0))
