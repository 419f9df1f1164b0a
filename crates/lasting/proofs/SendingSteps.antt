-- Each change of the sending half keeps its part of the shape, and the frames that it sends are in range.
-- Assumes nothing.
use Rattle.std.specs.Prelude.{Some, None, Option, ℕ}
use Prim.Native.Nat.{ℕ, ◌+◌, ◌%◌, ◌<◌, ◌≤◌}
use mathlib.Core.Path.{◌≡◌, refl, sym, ap, ◌∙◌}
use mathlib.Core.Bool.{Bool, true, false, ◌&&◌}
use mathlib.Core.Logic.{◌≢◌, by_cases}
use mathlib.Core.List.{[], ◌∷◌, ◌++◌}
use native.Mathlib.Omega.{arith}
use native.Mathlib.Decide.{ℕ_discrete}
use borrow.Author.Tests.{le-ltb, lt-ltb, ltb-true, eq-eqb, eqb-true, eqb-false}
use lib.Dec.{ltb, eqb}
use lib.ListN.{length, set, get_or, length-append, length-set}
use lib.Seq.{get_or-set_same, get_or-set_other}
use Rattle.basics.proofs.All.{all_snoc, all_drop, all_without, all-at}
use Rattle.basics.proofs.Branches.{by_test, and_left, and_right}
use Rattle.basics.proofs.Each.{by_bool, by_order_lem}
use Rattle.basics.proofs.Filters.{filter_snoc_in, filter_snoc_out, count-without}
use Rattle.basics.proofs.Finds.{place_of, apart}
use Rattle.basics.proofs.Places.{stored-keeps}
use Rattle.counters.specs.declared.Counts.{Counts}
use Rattle.counters.specs.declared.Seq.{Seq}
use Rattle.counters.specs.Wrapped.{plus, within}
use Rattle.counters.specs.Counters.{data_range, seq_range, added, ack_answer, update_answer}
use Rattle.counters.proofs.Wrap.{minus-back}
use Rattle.credits.specs.Credits.{none, credit_for, spent, updated}
use Rattle.packets.specs.declared.Packet.{Packet}
use Rattle.packets.specs.declared.Category.{Category}
use Rattle.packets.specs.Packets.{category_of, packet_answer, slot_of}
use Rattle.frames.specs.declared.Frame.{Frame}
use Rattle.frames.specs.declared.Frame.TheVariants as Frame
use Rattle.frames.specs.declared.Message.{Message}
use Rattle.frames.specs.declared.Message.TheVariants as Message
use Rattle.frames.specs.Frames as F
use Rattle.frames.specs.Frames.{frame_answer}
use Rattle.frames.proofs.Range.{answered}
use Rattle.store.specs.declared.Packets.{Packets}
use Rattle.store.specs.Store.{capacity, empty, held, no_packet, is_of, of_category, pushed, removed, released}
use Rattle.store.proofs.Held as H
use Rattle.store.proofs.Categories.{same-category}
use Rattle.setup.specs.declared.Setup.{Setup}
use Rattle.setup.specs.Setup.{channels, per_end, channel_of}
use Rattle.sender.specs.declared.Replay.{Replay}
use Rattle.sender.specs.declared.Sender.{Sender}
use Rattle.sender.specs.Sender.{Told}
use Rattle.sender.specs.Sender.{queue_at, credit_at, with_replay, submitted, begun, timer_of}
use Rattle.sender.specs.Sources.{replay_frame, replayed, new_of, new_packet, new_frame, sent_new}
use Rattle.sender.proofs.Arrays.{arrays_submitted, arrays_replay, arrays_sent}
use Rattle.sender.proofs.Changes as C
use Rattle.sender.proofs.Choosing.{new_room, new_channel, new_within}
use Rattle.sender.proofs.Slots.{slot_below}
use Rattle.hearing.specs.Hearing as W
use Rattle.hearing.proofs.Heard as D
use Rattle.shape.specs.Shape.{is_on, well_formed}
use Rattle.lasting.proofs.Sending.{QueueKept, CreditFits, SendingKept}

-- ---- a queue

full_pushed : (q : Packets) (p : Packet) → capacity ≤ q.len → pushed q p ≡ q
unfolding pushed
full_pushed q p h = simp (pushed, le-ltb q.len capacity h)

module _ {link : Setup} {channel : ℕ} {q : Packets} (long : length q.items ≡ capacity) (k : QueueKept link channel q) where
  module _ (p : Packet) (ok : packet_answer p ≡ 0) (here : channel_of link p.class ≡ channel)
      (room : length (of_category (category_of p) (held q)) < 8) where
    few_snoc : (c : Category) → length (of_category c (held q ++ (p ∷ []))) ≤ 8
    few_snoc c =
        by_bool (is_of c p)
        (λ t.
        let less : length (of_category c (held q)) < 8 = rw (same-category (category_of p) c t) at room in
        rw (filter_snoc_in (is_of c) (held q) p t, length-append) (omega arith))
        (λ t. rw (filter_snoc_out (is_of c) (held q) p t) (k.few c))

    -- where it is full it stays as it was
    queue-pushed : QueueKept link channel (pushed q p)
    queue-pushed =
        by_order_lem q.len capacity
        (λ h.
        let is = H.held-pushed q long p h in
        record {
          bound = rw (H.len_pushed q long p h) (omega arith);
          few = λ c. rw is (few_snoc c);
          on = rw (is, all_snoc (is_on link channel) (held q) p, k.on) (eq-eqb (channel_of link p.class) channel here);
          formed = rw (is, all_snoc well_formed (held q) p, k.formed) (eq-eqb (packet_answer p) 0 ok);
        })
        (λ h. rw (full_pushed q p h) k)

  queue-removed : (place : ℕ) → place < length (held q) → QueueKept link channel (removed q place)
  queue-removed place h =
      let within : place < q.len = omega (arith, H.length-held q long k.bound) in
      let is = H.held-removed q long place within k.bound in
      record {
        bound = rw (H.len_removed q long place within k.bound) (omega (arith, k.bound));
        few = λ c. rw is (omega (arith, count-without (is_of c) place (held q), k.few c));
        on = rw is (all_without (is_on link channel) place (place + 1) (held q) k.on);
        formed = rw is (all_without well_formed place (place + 1) (held q) k.formed);
      }

-- ---- the half

module _ {link : Setup} {s : Sender} (k : SendingKept link s) where
  -- ---- Submit

  -- a queue that keeps the rules is stored
  queue-stored : (channel : ℕ) (q : Packets) → (channel < channels → QueueKept link channel q)
      → (i : ℕ) → i < channels → QueueKept link i (get_or (set s.queues channel q) i empty)
  queue-stored channel q new i h =
      by_cases (ℕ_discrete i channel)
      (λ e. rw (e, get_or-set_same s.queues channel q empty (omega (arith, k.arrays.queues_are))) (new (omega arith)))
      (λ n. rw (get_or-set_other s.queues channel i q empty n) (k.queue i h))

  module _ (channel : ℕ) (p : Packet) (ok : packet_answer p ≡ 0) (here : channel_of link p.class ≡ channel)
      (room : length (of_category (category_of p) (held (queue_at s channel))) < 8) where
    pub submitted_kept : SendingKept link (submitted s channel p)
    unfolding submitted
    submitted_kept =
        record {
          arrays = arrays_submitted s k.arrays channel p;
          queue =
              queue-stored channel (pushed (queue_at s channel) p)
              (λ used. queue-pushed (k.arrays.queue_is channel) (k.queue channel used) p ok here room);
          credit = k.credit;
          buffer_bound_lem = k.buffer_bound_lem;
          buffer_formed = k.buffer_formed;
          next_fits = k.next_fits;
          acked_fits = k.acked_fits;
          count_fits = k.count_fits;
          run = k.run;
          replay_in_lem = k.replay_in_lem;
        }

  -- ---- a replay

  replay_kept : (x : Replay) → x.count ≤ 3 → ((i : ℕ) → x.at ≡ Some i → i < s.buffer.len) → SendingKept link (with_replay s x)
  replay_kept x few inside =
      record {
        arrays = arrays_replay s k.arrays x;
        queue = k.queue;
        credit = k.credit;
        buffer_bound_lem = k.buffer_bound_lem;
        buffer_formed = k.buffer_formed;
        next_fits = k.next_fits;
        acked_fits = k.acked_fits;
        count_fits = few;
        run = k.run;
        replay_in_lem = inside;
      }

  pub begun_kept : s.buffer.len ≢ 0 → SendingKept link (with_replay s (begun s.replay))
  begun_kept some =
      replay_kept (begun s.replay) (C.begun-count s.replay)
      (λ i e. let z : 0 ≡ i = ap place_of (sym (C.begun-at s.replay) ∙ e) in omega (arith, some))

  pub timer_kept : SendingKept link (timer_of s).sender
  unfolding timer_of
  timer_kept =
      by_test (λ (t : Told). SendingKept link t.sender) (eqb s.buffer.len 0) (λ t. k) (λ t. begun_kept (eqb-false s.buffer.len 0 t))

  pub replayed_kept : (i : ℕ) → SendingKept link (replayed s i)
  unfolding replayed
  replayed_kept i = replay_kept _ k.count_fits (λ j e. (C.place_after_lem i s.buffer.len j e).1)

  -- ---- a new packet

  module _ (channel place : ℕ) (new : new_of s ≡ Some (channel, place)) where
    abbrev it : Packet
    it = new_packet s channel place

    here : channel < channels
    here = new_channel s channel place new

    buffer_room : s.buffer.len < capacity
    buffer_room = omega (arith, new_room s channel place new)

    it_formed : eqb (packet_answer it) 0 ≡ true
    it_formed = all-at well_formed (held (queue_at s channel)) place no_packet (new_within s channel place new) (k.queue channel here).formed

    queue-sent : (i : ℕ) → i < channels → QueueKept link i (queue_at (sent_new s channel place) i)
    queue-sent i h =
        by_cases (ℕ_discrete i channel)
        (λ e.
        rw (e, C.queue-sent s k.arrays channel here place)
        (queue-removed (k.arrays.queue_is channel) (k.queue channel here) place (new_within s channel place new)))
        (λ n. rw (C.queue-sent-other s channel i place n) (k.queue i h))

    credit-sent : (slot : ℕ) → slot < per_end → CreditFits (credit_at (sent_new s channel place) slot)
    unfolding spent added plus
    credit-sent slot h =
        by_cases (ℕ_discrete slot (slot_of channel (category_of it)))
        (λ e. rw (e, C.credit-sent s k.arrays channel here place) ((k.credit (slot_of channel (category_of it)) (slot_below channel (category_of it) here)).0, omega arith))
        (λ n. rw (C.credit-sent-other s channel slot place n) (k.credit slot h))

    pub sent_kept : SendingKept link (sent_new s channel place)
    unfolding plus
    sent_kept =
        let more = C.len_buffer_sent s k.arrays channel here place buffer_room in
        record {
          arrays = arrays_sent s k.arrays channel place;
          queue = queue-sent;
          credit = credit-sent;
          buffer_bound_lem = rw more (omega (arith, new_room s channel place new));
          buffer_formed =
              rw (C.held_buffer_sent s k.arrays channel here place buffer_room, all_snoc well_formed (held s.buffer) it, k.buffer_formed) it_formed;
          next_fits = rw (C.next-sent s channel place here) (omega arith);
          acked_fits = rw (C.acked-sent s channel place) k.acked_fits;
          count_fits = rw (C.replay-sent s channel place) k.count_fits;
          run = rw (C.next-sent s channel place here, C.acked-sent s channel place, more) (omega (arith, k.run));
          replay_in_lem = λ i e. let z = k.replay_in_lem i (rw (C.replay-sent s channel place) at e) in rw more (omega arith);
        }

    -- the frame is in range
    pub new_frame_fits : (n : ℕ) → frame_answer n (new_frame s channel place) ≡ 0
    unfolding F.in_range
    new_frame_fits n = rw (lt-ltb s.next.0 seq_range k.next_fits, it_formed)

  pub replay_frame_fits : (n i : ℕ) → s.replay.at ≡ Some i → frame_answer n (replay_frame s i) ≡ 0
  unfolding F.in_range plus
  replay_frame_fits n i e =
      let inside : i < length (held s.buffer) =
      omega (arith, k.replay_in_lem i e, H.length-held s.buffer k.arrays.buffer_is (omega (arith, k.buffer_bound_lem))) in
      let small : ((s.acked.0 + 1) % seq_range + i) % seq_range < seq_range = omega arith in
      rw (lt-ltb _ _ small, all-at well_formed (held s.buffer) i no_packet inside k.buffer_formed)

  -- ---- an Ack or a Nak

  module _ (number : Seq) (fit : number.0 < seq_range) (enough : W.releases s number ≤ s.buffer.len) where
    abbrev gone : ℕ
    gone = W.releases s number

    -- a running replay's next packet is one of those left
    moved_in : (left : ℕ) → left + gone ≡ s.buffer.len → (x : Option ℕ) → s.replay.at ≡ x → (i : ℕ) → W.moved gone left x ≡ Some i → i < left
    moved_in left all_of (Some j) at i e = D.moved-within gone left j i (omega (arith, k.replay_in_lem j at)) e
    moved_in left all_of None at i e = apart i e

    pub acknowledged_kept : SendingKept link (W.acknowledged s number)
    unfolding W.acknowledged
    acknowledged_kept =
        let bound : s.buffer.len ≤ capacity = omega (arith, k.buffer_bound_lem) in
        let left = H.len_released s.buffer k.arrays.buffer_is gone enough bound in
        let back : (s.acked.0 + gone) % seq_range ≡ number.0 = minus-back seq_range (omega arith) number.0 s.acked.0 fit in
        record {
          arrays = D.arrays_acknowledged s k.arrays number;
          queue = k.queue;
          credit = k.credit;
          buffer_bound_lem = rw left (omega (arith, k.buffer_bound_lem));
          buffer_formed =
              rw (H.held-released s.buffer k.arrays.buffer_is gone enough bound) (all_drop well_formed gone (held s.buffer) k.buffer_formed);
          next_fits = k.next_fits;
          acked_fits = fit;
          count_fits = omega arith;
          run = rw left (omega (arith, k.run, back));
          replay_in_lem = moved_in (released s.buffer gone).len (omega (arith, left)) s.replay.at refl;
        }

-- a Nak then starts a replay if anything is left
again_kept : {link : Setup} {s : Sender} → SendingKept link s → SendingKept link (W.again s)
unfolding W.again
again_kept {link} {s} k = by_test (SendingKept link) (eqb s.buffer.len 0) (λ t. k) (λ t. begun_kept k (eqb-false s.buffer.len 0 t))

module _ {link : Setup} {s : Sender} (k : SendingKept link s) where
  answered_kept : (number : Seq) (nak : Bool) → number.0 < seq_range → SendingKept link (W.answered s number nak).sender
  unfolding W.answered
  answered_kept number nak fit =
      by_test (λ (t : Told). SendingKept link t.sender) (eqb (ack_answer s.acked s.buffer.len number) 0)
      (λ t.
      let free = acknowledged_kept k number fit (D.accepted-releases s number (eqb-true _ 0 t)) in
      by_test (SendingKept link) nak (λ u. again_kept free) (λ u. free))
      (λ t. k)

  -- ---- an update

  limited_kept : (channel : ℕ) (c : Category) (limits : Counts) → limits.d.0 < data_range → SendingKept link (W.limited s channel c limits).sender
  unfolding W.limited updated
  limited_kept channel c limits fit =
      let now = credit_at s (slot_of channel c) in
      let new = updated now limits in
      let test = eqb (update_answer now.limit limits) 0 in
      by_test (λ (t : Told). SendingKept link t.sender) (ltb channel channels && test)
      (λ t.
      let small = slot_below channel c (ltb-true channel channels (and_left (ltb channel channels) test t)) in
      record {
        arrays =
            record {
              queues_are = k.arrays.queues_are;
              credits_are = length-set s.credits (slot_of channel c) new ∙ k.arrays.credits_are;
              buffer_is = k.arrays.buffer_is;
              queue_is = k.arrays.queue_is;
            };
        queue = k.queue;
        credit = λ i h. stored-keeps CreditFits s.credits (slot_of channel c) i new (credit_for none) (fit, (k.credit (slot_of channel c) small).1) (k.credit i h);
        buffer_bound_lem = k.buffer_bound_lem;
        buffer_formed = k.buffer_formed;
        next_fits = k.next_fits;
        acked_fits = k.acked_fits;
        count_fits = k.count_fits;
        run = k.run;
        replay_in_lem = k.replay_in_lem;
      })
      (λ t. k)

  -- ---- every message that is in range

  pub heard_kept : (n : ℕ) (m : Message) → frame_answer n (Frame.Message m) ≡ 0 → SendingKept link (W.hears s m).sender
  unfolding W.hears F.in_range
  heard_kept n (Message.Ack number) ok = answered_kept number false (ltb-true number.0 seq_range (answered n (Frame.Message (Message.Ack number)) ok))
  heard_kept n (Message.Nak number) ok = answered_kept number true (ltb-true number.0 seq_range (answered n (Frame.Message (Message.Nak number)) ok))
  heard_kept n (Message.Update channel c limits) ok =
      let both = answered n (Frame.Message (Message.Update channel c limits)) ok in
      limited_kept channel c limits (ltb-true limits.d.0 data_range (and_right (ltb channel n) (ltb limits.d.0 data_range) both))
