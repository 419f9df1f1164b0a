-- Send keeps the direction, where the frame is a new packet, one of a replay, or a link message of the other direction.
-- Of the choice of a new packet only three facts are used: it is the first of its category in its channel, its credits suffice, and it is
-- posted or no posted packet stands before it. Assumes nothing.
use Rattle.std.specs.Prelude.{Some, None}
use Prim.Native.Nat.{ℕ, ◌+◌, ◌-◌, ◌%◌, ◌≤◌, ◌<◌}
use mathlib.Core.Path.{◌≡◌, sym, ap, ◌∙◌}
use mathlib.Core.Logic.{◌≢◌, by_cases}
use mathlib.Core.Bool.{true}
use mathlib.Core.List.{List, [], ◌∷◌, ◌++◌}
use native.Mathlib.Decide.{ℕ_discrete}
use native.Mathlib.Omega.{arith}
use native.Mathlib.Nat.{le_trans}
use borrow.Author.Tests.{eq-eqb}
use lib.Dec.{eqb}
use lib.ListN.{length, get_or, take, drop, length-append}
use lib.Seq.{get_or-drop, take-append-le, drop-append-le, get_or-append_seam}
use Rattle.basics.specs.Lists.{all}
use Rattle.basics.proofs.All.{all_snoc, all_without}
use Rattle.basics.proofs.Filters.{count-without}
use Rattle.basics.proofs.Finds.{apart}
use Rattle.counters.specs.Wrapped.{plus}
use Rattle.counters.specs.Counters.{seq, next_of, after_of}
use Rattle.packets.specs.declared.Packet.{Packet}
use Rattle.packets.specs.declared.Category.{Category}
use Rattle.packets.specs.Packets.{category_of, packet_answer, slot_of}
use Rattle.credits.specs.declared.Credit.{Credit}
use Rattle.credits.specs.Credits.{spent}
use Rattle.store.specs.declared.Packets.{Packets}
use Rattle.store.specs.Store.{held, at, no_packet, is_of, of_category}
use Rattle.store.proofs.Held.{length-held}
use Rattle.frames.specs.declared.Message.{Message}
use Rattle.line.specs.declared.Slot.{Slot}
use Rattle.line.specs.Line.{slot}
use Rattle.setup.specs.declared.Setup.{Setup}
use Rattle.setup.specs.Setup.{channels, per_end, in_range}
use Rattle.sender.specs.declared.Sender.{Sender}
use Rattle.sender.specs.declared.Replay.{Replay}
use Rattle.sender.specs.Sender.{queue_at, credit_at}
use Rattle.sender.specs.Sources.{replay_frame, replayed, new_of, new_packet, new_frame, sent_new}
use Rattle.sender.proofs.Arrays.{arrays_sent}
use Rattle.sender.proofs.Changes.{queue-sent-other, credit-sent-other, held-sent, len_sent, credit-sent, held_buffer_sent, len_buffer_sent, next-sent, acked-sent, replay-sent, place_after_lem}
use Rattle.sender.proofs.Choosing.{new_room, new_channel, new_within, new_first, new_suffices, new_in_order}
use Rattle.receiver.specs.declared.Receiver.{Receiver}
use Rattle.amounts.specs.Amounts as A
use Rattle.amounts.specs.Amounts.{Fits, wrapped, amount_of, channel_for, on, slot_for, load}
use Rattle.traffic.specs.Traffic.{a_packet, a_message}
use Rattle.direction.specs.Direction.{Past, sending_one, arrived, belongs, affordable, Waits, Sending, Crediting, Direction}
use Rattle.direction.proofs.Bounds.{limit-near, units_small}
use Rattle.direction.proofs.Parts.{lines_keep, replay-keeps}
use Rattle.direction.proofs.Waits.{belongs_channel, belongs-rules, waits_own, waits_leave}
use Rattle.amounts.proofs.Loads.{on-other, load_same, load-other}
use Rattle.amounts.proofs.Wrapped.{wrapped-added, gate_fits, units-few}
use Rattle.amounts.proofs.Given.{slot_small}
use Rattle.traffic.proofs.Forth.{forth_grow, forth_sent, forth_other}

module _ {link : Setup} {g : Past} {s : Sender} {forth back : List Slot} {r : Receiver} (ok : in_range link ≡ true) (i : Direction link g s forth r back) where
  -- ---- a new packet

  module _ (channel place : ℕ) (new : new_of s ≡ Some (channel, place)) (rests : s.replay.at ≡ None) where
    abbrev it : Packet
    it = new_packet s channel place

    here : channel < channels
    here = new_channel s channel place new

    w : Waits link channel (on link channel g.accepted) (on link channel g.sent) (queue_at s channel)
    w = i.sending.queue channel here

    own : belongs link channel it ≡ true
    own = waits_own place w (new_within s channel place new)

    is_on_lem : channel_for link it ≡ channel
    is_on_lem = belongs_channel link channel it own

    rules : packet_answer it ≡ 0
    rules = belongs-rules link channel it own

    slot_is : slot_for link it ≡ slot_of channel (category_of it)
    slot_is = rw is_on_lem

    within : place < (queue_at s channel).len
    within = omega (arith, new_within s channel place new, length-held (queue_at s channel) (i.s_arrays.queue_is channel) w.bound)

    room : s.buffer.len < 16
    room = new_room s channel place new

    held-here : held (queue_at (sent_new s channel place) channel) ≡ take place (held (queue_at s channel)) ++ drop (place + 1) (held (queue_at s channel))
    held-here = held-sent s i.s_arrays channel here place within w.bound

    by_channel : (P : ℕ → Packets → Type 0) → P channel (queue_at (sent_new s channel place) channel)
        → ((k : ℕ) → k ≢ channel → P k (queue_at s k)) → (k : ℕ) → P k (queue_at (sent_new s channel place) k)
    by_channel P same others k =
        by_cases (ℕ_discrete k channel)
        (λ e. rw e same)
        (λ n. rw (queue-sent-other s channel k place n) (others k n))

    waits_here : Waits link channel (on link channel g.accepted) (on link channel (g.sent ++ (it ∷ []))) (queue_at (sent_new s channel place) channel)
    waits_here =
        waits_leave link channel g.sent place w (new_within s channel place new) (new_first s channel place new) (new_in_order s channel place new)
        (len_sent s i.s_arrays channel here place within w.bound) held-here

    -- its credits suffice: the gate is the plain test
    suffices-here : Fits (A.plus (load link g.sent (slot_of channel (category_of it))) (amount_of it)) (g.limit (slot_of channel (category_of it)))
    suffices-here =
        let k = slot_of channel (category_of it) in
        let small : k < per_end = rw slot_is at (slot_small link ok it rules) in
        let near = limit-near i channel (category_of it) here in
        let units = units_small link ok channel (category_of it) here in
        let f = i.crediting.within k in
        gate_fits (g.limit k) (load link g.sent k) it f (omega (arith, near.h, units.0, f.h)) (omega (arith, near.d, units.1, f.d))
        (omega (arith, units-few it rules))
        (rw (i.crediting.limit_is k small, i.crediting.consumed_is k small) at (new_suffices s channel place new))

    held_buffer : held (sent_new s channel place).buffer ≡ drop g.acked (g.sent ++ (it ∷ []))
    held_buffer =
        held_buffer_sent s i.s_arrays channel here place (omega (arith, room))
        ∙ rw i.sending.buffer_is (sym (drop-append-le g.acked g.sent (it ∷ []) (omega (arith, i.numbers))))

    len_buffer : (sent_new s channel place).buffer.len ≡ length (g.sent ++ (it ∷ [])) - g.acked
    len_buffer =
        len_buffer_sent s i.s_arrays channel here place (omega (arith, room))
        ∙ rw (length-append g.sent (it ∷ [])) (omega (arith, i.sending.buffer_len, i.numbers))

    number-after : (sent_new s channel place).next ≡ seq (length (g.sent ++ (it ∷ [])) % 4096)
    unfolding plus
    number-after =
        next-sent s channel place here
        ∙ rw (i.sending.next_is, length-append g.sent (it ∷ [])) (ap seq (omega arith))

    new_sending : Sending link g.accepted (g.sent ++ (it ∷ [])) g.acked (sent_new s channel place)
    new_sending =
        record {
          next_is = number-after;
          acked_is = acked-sent s channel place ∙ i.sending.acked_is;
          buffer_is = held_buffer;
          buffer_len = len_buffer;
          replay_in_lem = λ k e. apart k (sym (ap (λ (x : Replay). x.at) (replay-sent s channel place) ∙ rests) ∙ e);
          count_fits = rw (replay-sent s channel place) i.sending.count_fits;
          known = i.sending.known;
          formed = rw (all_snoc (λ p. eqb (packet_answer p) 0) g.sent it, i.sending.formed, eq-eqb (packet_answer it) 0 rules);
          queue =
              by_channel (λ k q. k < channels → Waits link k (on link k g.accepted) (on link k (g.sent ++ (it ∷ []))) q)
              (λ h. waits_here)
              (λ k n h. rw (on-other link k g.sent it (λ e. n (sym e ∙ is_on_lem))) (i.sending.queue k h));
          few = λ k c h.
              by_channel (λ k q. k < channels → length (of_category c (held q)) ≤ 8)
              (λ z. rw held-here (fewer c))
              (λ k n z. i.sending.few k c z) k h;
          small =
              by_channel (λ k q. k < channels → all (affordable link) (held q) ≡ true)
              (λ h. rw held-here (all_without (affordable link) place (place + 1) (held (queue_at s channel)) (i.sending.small channel here)))
              (λ k n h. i.sending.small k h);
        }
      where
        fewer : (c : Category) → length (of_category c (take place (held (queue_at s channel)) ++ drop (place + 1) (held (queue_at s channel)))) ≤ 8
        fewer c = le_trans (count-without (is_of c) place (held (queue_at s channel))) (i.sending.few channel c here)

    -- by slot: the one that it is charged to, or another
    by_slot_lem : (P : ℕ → Credit → Type 0) → P (slot_of channel (category_of it)) (credit_at (sent_new s channel place) (slot_of channel (category_of it)))
        → ((k : ℕ) → k ≢ slot_of channel (category_of it) → P k (credit_at s k)) → (k : ℕ) → P k (credit_at (sent_new s channel place) k)
    by_slot_lem P same others k =
        by_cases (ℕ_discrete k (slot_of channel (category_of it)))
        (λ e. rw e same)
        (λ n. rw (credit-sent-other s channel k place n) (others k n))

    -- what is consumed after it
    load_here : load link (g.sent ++ (it ∷ [])) (slot_of channel (category_of it)) ≡ A.plus (load link g.sent (slot_of channel (category_of it))) (amount_of it)
    load_here = rw slot_is at (load_same link g.sent it)

    load-there : (k : ℕ) → k ≢ slot_of channel (category_of it) → load link (g.sent ++ (it ∷ [])) k ≡ load link g.sent k
    load-there k n = load-other link g.sent it k (λ e. n (e ∙ slot_is))

    new_crediting : Crediting link (g.sent ++ (it ∷ [])) g.limit (sent_new s channel place)
    unfolding spent
    new_crediting =
        record {
          limit_is =
              by_slot_lem (λ k x. k < per_end → x.limit ≡ wrapped (g.limit k))
              (λ h. rw (credit-sent s i.s_arrays channel here place) (i.crediting.limit_is (slot_of channel (category_of it)) h))
              (λ k n h. i.crediting.limit_is k h);
          consumed_is =
              by_slot_lem (λ k x. k < per_end → x.consumed ≡ wrapped (load link (g.sent ++ (it ∷ [])) k))
              (λ h.
              rw (credit-sent s i.s_arrays channel here place, load_here, i.crediting.consumed_is (slot_of channel (category_of it)) h)
              (wrapped-added (load link g.sent (slot_of channel (category_of it))) it))
              (λ k n h. rw (load-there k n) (i.crediting.consumed_is k h));
          within = λ k.
              by_cases (ℕ_discrete k (slot_of channel (category_of it)))
              (λ e. rw (e, load_here) suffices-here)
              (λ n. rw (load-there k n) (i.crediting.within k));
        }

    -- the frame is the packet sent as number N
    frame_is : slot (new_frame s channel place) ≡ a_packet (g.sent ++ (it ∷ [])) (length g.sent)
    frame_is = rw (i.sending.next_is, get_or-append_seam g.sent it [] no_packet)

    pub new_keeps : Direction link (sending_one g it) (sent_new s channel place) (forth ++ (slot (new_frame s channel place) ∷ [])) r back
    new_keeps =
        let longer = length-append g.sent (it ∷ []) in
        let same : take g.got (g.sent ++ (it ∷ [])) ≡ arrived g = take-append-le g.got g.sent (it ∷ []) i.numbers.mid in
        record {
          s_arrays = arrays_sent s i.s_arrays channel place;
          r_arrays = i.r_arrays;
          numbers = record { low = i.numbers.low; mid = omega (arith, longer, i.numbers.mid); high = omega (arith, longer, room, i.sending.buffer_len, i.numbers) };
          sending = new_sending;
          crediting = new_crediting;
          receiving = rw same i.receiving;
          rooming = rw same i.rooming;
          forth_ok =
              rw frame_is
              (forth_sent (length g.sent) (omega (arith, longer)) (omega (arith, longer)) (omega (arith, longer, i.numbers.mid)) (forth_grow it i.forth_ok));
          acks_ok = i.acks_ok;
          updates_ok = i.updates_ok;
        }

-- ---- the next packet of a replay: it adds to no counter

module _ {link : Setup} {g : Past} {s : Sender} {forth back : List Slot} {r : Receiver} (i : Direction link g s forth r back) where
  pub again-keeps : (j : ℕ) → s.replay.at ≡ Some j → Direction link g (replayed s j) (forth ++ (slot (replay_frame s j) ∷ [])) r back
  unfolding replayed plus
  again-keeps j e =
      let inside : j < s.buffer.len = i.sending.replay_in_lem j e in
      let number : after_of (next_of s.acked) j ≡ seq ((g.acked + j) % 4096) = rw i.sending.acked_is (ap seq (omega arith)) in
      let packet : at s.buffer j ≡ get_or g.sent (g.acked + j) no_packet = rw i.sending.buffer_is (get_or-drop g.acked g.sent j no_packet) in
      let below : g.acked + j < length g.sent = omega (arith, i.sending.buffer_len, i.numbers) in
      let sent = forth_sent (g.acked + j) below (omega (arith, i.numbers)) i.numbers.mid i.forth_ok in
      lines_keep (replay-keeps i (replayed s j).replay (λ k z. (place_after_lem j s.buffer.len k z).1) i.sending.count_fits)
      (rw (number, packet) sent) i.acks_ok i.updates_ok

  -- ---- a link message of the other direction passes

  pub forth_passed : (m : Message) → Direction link g s (forth ++ (a_message m ∷ [])) r back
  forth_passed m = lines_keep i (forth_other m i.forth_ok) i.acks_ok i.updates_ok
