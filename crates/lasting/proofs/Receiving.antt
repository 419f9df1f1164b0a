-- The receiving half's part of the shape of an end: its rules one by one, and that what changes no packet keeps them.
-- And how free room and units waiting add up where a packet comes or goes, over plain values.
-- The setup is in range where that is said. Assumes nothing else.
use Prim.Native.Nat.{ℕ, ◌+◌, ◌-◌, ◌*◌, ◌%◌, ◌≤◌, ◌<◌}
use mathlib.Core.Path.{◌≡◌, refl, ap, ◌∙◌}
use mathlib.Core.Logic.{by_cases}
use mathlib.Core.Bool.{true, ◌&&◌}
use mathlib.Core.List.{List, [], ◌∷◌, ◌++◌}
use native.Mathlib.Decide.{ℕ_discrete}
use native.Mathlib.Omega.{arith}
use native.Mathlib.Nat.{mod-lt, mod-mod, mod-add-mod}
use borrow.Author.Tests.{lt-ltb, leb-true, eqb-true, eq-eqb}
use lib.Dec.{leb, eqb}
use lib.ListN.{length, get_or, length-append}
use Rattle.basics.specs.Each.{each}
use Rattle.basics.proofs.Branches.{and_left, and_right}
use Rattle.basics.proofs.Each.{by_bool, by_order_lem, each_at}
use Rattle.basics.proofs.Loops.{each_all}
use Rattle.basics.proofs.Totals.{total-append}
use Rattle.counters.specs.Counters.{added, between}
use Rattle.counters.specs.Wrapped.{plus, minus}
use Rattle.counters.proofs.Wrap.{minus_ahead, minus-back, minus_below}
use Rattle.credits.specs.declared.Room.{Room}
use Rattle.credits.specs.Credits.{free_of, room_answer, received, given_back, none, room_of, marked, unmarked}
use Rattle.packets.specs.declared.Packet.{Packet}
use Rattle.packets.specs.declared.Category.{Category}
use Rattle.packets.specs.declared.Category.TheVariants.{Posted, NonPosted, Completion}
use Rattle.packets.specs.Packets.{slot_of, data_units, data_together, need_of}
use Rattle.frames.specs.Frames.{number_in_range}
use Rattle.setup.specs.declared.Setup.{Setup}
use Rattle.setup.specs.declared.Units.{Units}
use Rattle.setup.specs.Setup.{channels, per_end, in_range}
use Rattle.setup.proofs.Range.{few-channels}
use Rattle.sender.proofs.Slots.{slot_below}
use Rattle.receiver.specs.declared.Receiver.{Receiver}
use Rattle.receiver.specs.declared.Reply.{Reply}
use Rattle.receiver.specs.Receiver.{receiver, inbox_at, room_at, with_reply, cleared, after_gap, told, refreshed}
use Rattle.delivery.specs.Delivery.{damaged}
use Rattle.receipts.proofs.Arrays.{Arrays, arrays_reply, arrays_told, arrays_refreshed}
use Rattle.receipts.proofs.Marks.{room-told, room-told-other, room-refreshed, room-refreshed-other, allocated_refreshed, received-refreshed}
use Rattle.receipts.proofs.Replies.{next_gap}
use Rattle.shape.specs.Shape.{inbox_bound, all_on, all_formed, room_fits, received_fit, mark_in_use, marks_in_use, adds_up, category_adds_up, channel_adds_up, room_adds_up}
use Rattle.lasting.proofs.Sending.{each-category}

-- the rules that speak of the receiving half, at each channel, slot and category
pub record ReceivingKept (link : Setup) (r : Receiver) : Type 0 where
  pub arrays : Arrays r
  pub bound : (channel : ℕ) → channel < channels → inbox_bound (inbox_at r channel) ≡ true
  pub on : (channel : ℕ) → channel < channels → all_on link channel (inbox_at r channel) ≡ true
  pub formed : (channel : ℕ) → channel < channels → all_formed (inbox_at r channel) ≡ true
  pub fit : (slot : ℕ) → slot < per_end → room_fits (room_at r slot) ≡ true
  pub marks : (slot : ℕ) → slot < per_end → mark_in_use link.n slot (room_at r slot) ≡ true
  pub next : number_in_range r.reply.next_receive ≡ true
  pub adds : (channel : ℕ) (c : Category) → channel < channels → category_adds_up link r channel c ≡ true

-- ---- from the rules of the shape

module _ (link : Setup) (r : Receiver) where
  each_adds : room_adds_up link r ≡ true → (channel : ℕ) (c : Category) → channel < channels → category_adds_up link r channel c ≡ true
  unfolding room_adds_up
  each_adds e channel c h =
      each-category (λ d. category_adds_up link r channel d) (each_at channels (λ k. channel_adds_up link r k) channel e h) c

  pub receiving_parts : Arrays r
      → each channels (λ channel. inbox_bound (inbox_at r channel)) ≡ true
      → each channels (λ channel. all_on link channel (inbox_at r channel)) ≡ true
      → each channels (λ channel. all_formed (inbox_at r channel)) ≡ true
      → received_fit r ≡ true
      → marks_in_use link.n r ≡ true
      → room_adds_up link r ≡ true
      → ReceivingKept link r
  unfolding received_fit marks_in_use
  receiving_parts a bound on formed fit marks adds =
      let rooms = each per_end (λ slot. room_fits (room_at r slot)) in
      let number = number_in_range r.reply.next_receive in
      record {
        arrays = a;
        bound = λ channel h. each_at channels (λ k. inbox_bound (inbox_at r k)) channel bound h;
        on = λ channel h. each_at channels (λ k. all_on link k (inbox_at r k)) channel on h;
        formed = λ channel h. each_at channels (λ k. all_formed (inbox_at r k)) channel formed h;
        fit = λ slot h. each_at per_end (λ k. room_fits (room_at r k)) slot (and_left rooms number fit) h;
        marks = λ slot h. each_at per_end (λ k. mark_in_use link.n k (room_at r k)) slot marks h;
        next = and_right rooms number fit;
        adds = each_adds adds;
      }

-- ---- and back

module _ {link : Setup} {r : Receiver} (k : ReceivingKept link r) where
  pub inboxes_bound : each channels (λ channel. inbox_bound (inbox_at r channel)) ≡ true
  inboxes_bound = each_all channels (λ channel. inbox_bound (inbox_at r channel)) k.bound

  pub inboxes_on : each channels (λ channel. all_on link channel (inbox_at r channel)) ≡ true
  inboxes_on = each_all channels (λ channel. all_on link channel (inbox_at r channel)) k.on

  pub inboxes_formed : each channels (λ channel. all_formed (inbox_at r channel)) ≡ true
  inboxes_formed = each_all channels (λ channel. all_formed (inbox_at r channel)) k.formed

  pub received_fit_lem : received_fit r ≡ true
  unfolding received_fit
  received_fit_lem = rw (each_all per_end (λ slot. room_fits (room_at r slot)) k.fit) k.next

  pub marks_in_use_lem : marks_in_use link.n r ≡ true
  unfolding marks_in_use
  marks_in_use_lem = each_all per_end (λ slot. mark_in_use link.n slot (room_at r slot)) k.marks

  pub room_adds_up_lem : room_adds_up link r ≡ true
  unfolding room_adds_up
  room_adds_up_lem =
      each_all channels (λ channel. channel_adds_up link r channel)
      (λ channel h. rw (k.adds channel Posted h, k.adds channel NonPosted h, k.adds channel Completion h))

-- ---- the receive buffers stay, and so do the counts of the rooms

module _ {link : Setup} {r : Receiver} (k : ReceivingKept link r) where
  rooms_kept : (rooms : List Room) (x : Reply) → Arrays (receiver r.inboxes rooms x)
      → ((slot : ℕ) → slot < per_end → (get_or rooms slot (room_of none)).allocated ≡ (room_at r slot).allocated)
      → ((slot : ℕ) → slot < per_end → (get_or rooms slot (room_of none)).received ≡ (room_at r slot).received)
      → ((slot : ℕ) → slot < per_end → mark_in_use link.n slot (get_or rooms slot (room_of none)) ≡ true)
      → number_in_range x.next_receive ≡ true
      → ReceivingKept link (receiver r.inboxes rooms x)
  unfolding category_adds_up adds_up
  rooms_kept rooms x a allocated received marks next =
      record {
        arrays = a;
        bound = k.bound;
        on = k.on;
        formed = k.formed;
        fit = λ slot h. rw (allocated slot h, received slot h) (k.fit slot h);
        marks = marks;
        next = next;
        adds = λ channel c h.
            let i = slot_below channel c h in
            rw (allocated (slot_of channel c) i, received (slot_of channel c) i) (k.adds channel c h);
      }

  -- the reply alone
  pub reply_kept : (x : Reply) → number_in_range x.next_receive ≡ true → ReceivingKept link (with_reply r x)
  reply_kept x next = rooms_kept r.rooms x (arrays_reply r k.arrays x) (λ slot h. refl) (λ slot h. refl) k.marks next

  pub cleared_kept : ReceivingKept link (cleared r)
  unfolding cleared
  cleared_kept = reply_kept _ k.next

  pub damaged_kept : ReceivingKept link (damaged r)
  unfolding damaged
  damaged_kept = reply_kept (after_gap r.reply) (rw (next_gap r.reply) k.next)

  -- an update goes out: what its slot's mark leaves as it was, it leaves as it was
  told_same : {A : Type 0} (f : Room → A) (slot : ℕ) → f (unmarked (room_at r slot)) ≡ f (room_at r slot)
      → (i : ℕ) → i < per_end → f (room_at (told r slot) i) ≡ f (room_at r i)
  told_same f slot same i h =
      by_cases (ℕ_discrete i slot)
      (λ e. rw e (ap f (room-told r slot k.arrays (omega arith)) ∙ same))
      (λ n. ap f (room-told-other r slot i n))

  pub told_kept : (slot : ℕ) → ReceivingKept link (told r slot)
  unfolding told unmarked
  told_kept slot =
      rooms_kept (told r slot).rooms r.reply (arrays_told r k.arrays slot)
      (told_same (λ m. m.allocated) slot refl)
      (told_same (λ m. m.received) slot refl)
      (λ i h.
      by_cases (ℕ_discrete i slot)
      (λ e. rw (e, room-told r slot k.arrays (omega arith)))
      (λ n. rw (room-told-other r slot i n) (k.marks i h)))
      k.next

  pub refreshed_kept : in_range link ≡ true → ReceivingKept link (refreshed r link.n)
  unfolding refreshed marked
  refreshed_kept ok =
      let few : 3 * link.n ≤ per_end = omega (arith, few-channels link ok) in
      rooms_kept (refreshed r link.n).rooms r.reply (arrays_refreshed r k.arrays link.n)
      (λ slot h. allocated_refreshed r link.n k.arrays few slot)
      (λ slot h. received-refreshed r link.n k.arrays few slot)
      (λ slot h.
      by_order_lem slot (3 * link.n)
      (λ i. rw (room-refreshed r link.n k.arrays few slot i, lt-ltb slot (3 * link.n) i))
      (λ i. rw (room-refreshed-other r link.n k.arrays few slot i) (k.marks slot h)))
      k.next

-- ---- a wrapped difference, where one of its two counts grows

-- a count and what is stored of it make the same difference
module _ (m a b : ℕ) where
  first_stored : minus m (a % m) b ≡ minus m a b
  unfolding minus
  first_stored = mod-add-mod a m (m - b % m)

  second_stored : minus m a (b % m) ≡ minus m a b
  unfolding minus
  second_stored = rw (mod-mod b m)

module _ (m : ℕ) (positive : 0 < m) (a b d : ℕ) where
  -- what lies between, added again, is stored as a is
  stored_back : (b + minus m a b) % m ≡ a % m
  stored_back = rw (first_stored m a b) at (minus-back m positive (a % m) b (mod-lt a positive))

  -- the second grows, by no more than lies between
  minus_less : d ≤ minus m a b → minus m a (plus m b d) ≡ minus m a b - d
  unfolding plus
  minus_less h =
      let x = minus m a b in
      let ahead = minus_ahead m positive (b + x) (b + d) (omega arith) (omega (arith, minus_below m positive a b)) in
      omega (arith, first_stored m a ((b + d) % m), rw stored_back at ahead)

  -- the first grows, by less than the rest of the lap
  minus-more : minus m a b + d < m → minus m (plus m a d) b ≡ minus m a b + d
  unfolding plus
  minus-more h =
      let x = minus m a b in
      let grown : (b + x + d) % m ≡ (a + d) % m = rw (← mod-add-mod (b + x) m d, stored_back) (mod-add-mod a m d) in
      let ahead = minus_ahead m positive (b + x + d) b (omega arith) (omega arith) in
      omega (arith, second_stored m ((a + d) % m) b, rw grown at ahead)

-- ---- free room and units waiting, over plain values

module _ (m : Room) (waiting : List Packet) (u : Units) where
  pub parts : adds_up m waiting u ≡ true → ((free_of m).h.0 + length waiting ≡ u.header) × ((free_of m).d.0 + data_together waiting ≡ u.payload)
  unfolding adds_up
  parts e =
      let h = eqb ((free_of m).h.0 + length waiting) u.header in
      let d = eqb ((free_of m).d.0 + data_together waiting) u.payload in
      (eqb-true _ _ (and_left h d e), eqb-true _ _ (and_right h d e))

  whole : (free_of m).h.0 + length waiting ≡ u.header → (free_of m).d.0 + data_together waiting ≡ u.payload → adds_up m waiting u ≡ true
  unfolding adds_up
  whole h d = rw (eq-eqb _ _ h, eq-eqb _ _ d)

-- 26 is not given: there is room
pub room_for_lem : (m : Room) (p : Packet) → room_answer m (need_of p) ≡ 0 → (1 ≤ (free_of m).h.0) × (data_units p ≤ (free_of m).d.0)
unfolding room_answer need_of
room_for_lem m p e =
    let h = leb 1 (free_of m).h.0 in
    let d = leb (data_units p) (free_of m).d.0 in
    by_bool (h && d)
    (λ t. (leb-true _ _ (and_left h d t), leb-true _ _ (and_right h d t)))
    (λ t. absurd (omega (arith, rw t at e)))

module _ (m : Room) (waiting : List Packet) (p : Packet) (u : Units) where
  -- a packet comes: its units were free, and now they wait
  pub adds_received : adds_up m waiting u ≡ true → room_answer m (need_of p) ≡ 0 → adds_up (received m (need_of p)) (waiting ++ (p ∷ [])) u ≡ true
  unfolding received added need_of between
  adds_received e room =
      let was = parts m waiting u e in
      let free = room_for_lem m p room in
      let h = minus_less 256 (omega arith) m.allocated.h.0 m.received.h.0 1 free.0 in
      let d = minus_less 4096 (omega arith) m.allocated.d.0 m.received.d.0 (data_units p) free.1 in
      whole (received m (need_of p)) (waiting ++ (p ∷ [])) u
      (omega (arith, was.0, free.0, h, length-append waiting (p ∷ [])))
      (omega (arith, was.1, free.1, d, total-append data_units waiting (p ∷ [])))

  -- a packet goes: its units waited, and now they are free
  pub adds_given : u.header ≤ 16 → u.payload ≤ 2047 → adds_up m (p ∷ waiting) u ≡ true → adds_up (given_back m (need_of p)) waiting u ≡ true
  unfolding given_back added need_of between
  adds_given few small e =
      let was = parts m (p ∷ waiting) u e in
      let h = minus-more 256 (omega arith) m.allocated.h.0 m.received.h.0 1 (omega (arith, was.0)) in
      let d = minus-more 4096 (omega arith) m.allocated.d.0 m.received.d.0 (data_units p) (omega (arith, was.1)) in
      whole (given_back m (need_of p)) waiting u (omega (arith, was.0, h)) (omega (arith, was.1, d))
