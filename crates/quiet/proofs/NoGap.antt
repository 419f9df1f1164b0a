-- No event of a quiet round makes a gap among the fresh packets of a direction, and none of them is out of order.
-- Assumes nothing.
use Rattle.std.specs.Prelude.{if◌then◌else◌, Some, None, Option, ℕ}
use Prim.Native.Nat.{ℕ, zero, suc, pred, ◌+◌, ◌-◌, ◌%◌, ◌≤◌, ◌<◌, max}
use mathlib.Core.Path.{◌≡◌, refl, sym, ap, ◌∙◌}
use mathlib.Core.Logic.{◌≢◌}
use mathlib.Core.Bool.{Bool, true}
use mathlib.Core.List.{List, [], ◌∷◌, ◌++◌}
use native.Mathlib.Omega.{arith}
use native.Mathlib.Nat.{le_refl}
use borrow.Author.Tests.{ltb-false, leb-true, eqb-true}
use lib.Dec.{leb, ltb, eqb}
use lib.ListN.{length, get_or, length-append}
use lib.Seq.{get_or-drop, get_or-append_seam}
use Rattle.basics.proofs.Branches.{by_test}
use Rattle.counters.specs.declared.Seq.{Seq}
use Rattle.counters.specs.Wrapped.{plus}
use Rattle.counters.specs.Counters.{seq, next_of, after_of}
use Rattle.counters.proofs.Wrap.{minus_ahead}
use Rattle.packets.specs.declared.Packet.{Packet}
use Rattle.frames.specs.declared.Frame.TheVariants as Frame
use Rattle.store.specs.Store.{capacity, at, no_packet}
use Rattle.line.specs.declared.Slot.{Slot}
use Rattle.line.specs.Line.{slot}
use Rattle.setup.specs.declared.Setup.{Setup}
use Rattle.setup.specs.Setup.{in_range}
use Rattle.sender.specs.declared.Sender.{Sender}
use Rattle.sender.specs.Sender.{with_replay, begun}
use Rattle.sender.specs.Sources.{place_after, replay_frame, replayed, new_packet, new_frame, sent_new}
use Rattle.sender.proofs.Changes.{begun-at, replay-sent}
use Rattle.hearing.specs.Hearing.{releases, moved, acknowledged, again}
use Rattle.hearing.proofs.Heard.{len_acknowledged}
use Rattle.receiver.specs.declared.Receiver.{Receiver}
use Rattle.traffic.specs.Traffic.{a_packet, up_to}
use Rattle.direction.specs.Direction.{Past, sending_one, getting_one, acking, Direction}
use Rattle.direction.proofs.Arriving.{o}
use Rattle.quiet.specs.Quiet.{upcoming, Fresh}
use Rattle.quiet.proofs.Fresh.{fresh_open, fresh-next, fresh_lower, fresh_raise, fresh-grow, fresh-sent, old_oldest, fresh-oldest, fresh-empty}

-- the number of the next packet that the sender will send
abbrev pub next_in : Past → Sender → ℕ
next_in g s = upcoming s.replay.at g.acked (length g.sent)

-- the first n frames on the line forth are old, and the fresh packets leave no gap
abbrev pub NoGap : ℕ → Past → Sender → List Slot → Type 0
NoGap n g s forth = Fresh g.sent n g.got g.got (next_in g s) forth

-- ---- a round opens: all frames are old

module _ {link : Setup} {g : Past} {s : Sender} {forth back : List Slot} {r : Receiver} (i : Direction link g s forth r back) where
  -- by Timer: the next is the oldest unacknowledged
  pub open_fresh : NoGap (length forth) g (with_replay s (begun s.replay)) forth
  open_fresh = fresh_open i.forth_ok (rw (begun-at s.replay) (omega (arith, i.numbers.low)))

  -- nothing is unacknowledged: no replay runs
  pub open_idle : s.buffer.len ≡ 0 → NoGap (length forth) g s forth
  open_idle none = fresh_open i.forth_ok (go s.replay.at refl)
    where
      go : (f : Option ℕ) → s.replay.at ≡ f → upcoming f g.acked (length g.sent) ≤ g.got
      go (Some j) e = absurd (omega (arith, i.sending.replay_in_lem j e))
      go None e = omega (arith, i.sending.buffer_len, i.numbers)

-- ---- a packet goes onto the line

module _ {link : Setup} {g : Past} {s : Sender} {forth back : List Slot} {r : Receiver} (i : Direction link g s forth r back) where
  -- a new one is the packet sent as number N
  frame_is : (channel place : ℕ) → slot (new_frame s channel place) ≡ a_packet (g.sent ++ (new_packet s channel place ∷ [])) (length g.sent)
  frame_is channel place = rw (i.sending.next_is, get_or-append_seam g.sent (new_packet s channel place) [] no_packet)

  pub new_fresh : {n : ℕ} (channel place : ℕ) → s.replay.at ≡ None → NoGap n g s forth
      → NoGap n (sending_one g (new_packet s channel place)) (sent_new s channel place) (forth ++ (slot (new_frame s channel place) ∷ []))
  new_fresh channel place rests f =
      let it = new_packet s channel place in
      let longer : length (g.sent ++ (it ∷ [])) ≡ suc (length g.sent) = omega (arith, length-append g.sent (it ∷ [])) in
      rw (frame_is channel place, replay-sent s channel place, rests, longer)
      (fresh-sent (length g.sent) (omega (arith, longer)) (omega (arith, longer)) (omega (arith, longer, i.numbers.mid))
      (fresh-grow it (rw rests at f)))

  -- after one of a replay the next is the one after it, also when the replay ends: then all that was sent is sent again
  next-after : (j : ℕ) → j < s.buffer.len → upcoming (place_after j s.buffer.len) g.acked (length g.sent) ≡ suc (g.acked + j)
  next-after j h =
      by_test (λ (f : Option ℕ). upcoming f g.acked (length g.sent) ≡ suc (g.acked + j)) (ltb (j + 1) s.buffer.len)
      (λ t. omega arith)
      (λ t. omega (arith, ltb-false (j + 1) s.buffer.len t, i.sending.buffer_len, i.numbers))

  pub again-fresh : {n : ℕ} (j : ℕ) → s.replay.at ≡ Some j → NoGap n g s forth → NoGap n g (replayed s j) (forth ++ (slot (replay_frame s j) ∷ []))
  unfolding replayed plus
  again-fresh j e f =
      let inside : j < s.buffer.len = i.sending.replay_in_lem j e in
      let number : after_of (next_of s.acked) j ≡ seq ((g.acked + j) % 4096) = rw i.sending.acked_is (ap seq (omega arith)) in
      let packet : at s.buffer j ≡ get_or g.sent (g.acked + j) no_packet = rw i.sending.buffer_is (get_or-drop g.acked g.sent j no_packet) in
      let below : g.acked + j < length g.sent = omega (arith, i.sending.buffer_len, i.numbers) in
      rw (number, packet, next-after j inside) (fresh-sent (g.acked + j) below (omega (arith, i.numbers)) i.numbers.mid (rw e at f))

-- ---- a packet arrives whole, by its true number t: the next, before it or after it

module _ {link : Setup} {g : Past} {s : Sender} {forth back : List Slot} {r : Receiver} (ok : in_range link ≡ true) {number : Seq} {p : Packet}
    (i : Direction link g s (slot (Frame.Packet number p) ∷ forth) r back) where
  -- two numbers that lie near what is received and are stored alike are one
  one_number : (t : ℕ) → number ≡ seq (t % 4096) → t < length g.sent → g.got ≤ t + 16 → (o ok i).t ≡ t
  one_number t e below recent =
      let same : (o ok i).t % 4096 ≡ t % 4096 = ap (λ (x : Seq). x.0) (sym (o ok i).number_is ∙ e) in
      omega (arith, (o ok i).below, (o ok i).recent, i.numbers)

  -- a fresh one is not ahead; and the rest of the line, where c are received after it
  after_one : (n : ℕ) → NoGap n g s (slot (Frame.Packet number p) ∷ forth) → (n ≡ 0 → (o ok i).t ≤ g.got)
      × ((c : ℕ) → g.got ≤ c → c ≤ max g.got (suc (o ok i).t) → (n ≡ 0 → (o ok i).t < c) → Fresh g.sent (pred n) c c (next_in g s) forth)
  after_one zero f =
      let h = fresh-oldest f in
      let e = one_number h.t h.number_is h.below h.recent in (
        λ z. omega (arith, e, h.low),
        λ c low high more.
            let down : c ≤ max g.got (suc h.t) = omega (arith, e, high) in
            let up : max g.got (suc h.t) ≤ c = omega (arith, e, low, more refl) in
            fresh_lower down (fresh_raise up h.rest),
      )
  after_one (suc n) f =
      let h = old_oldest f in
      let e = one_number h.t h.number_is h.below h.recent in (
        λ z. absurd (omega arith),
        λ c low high more.
            let down : c ≤ max g.got (suc h.t) = omega (arith, e, high) in
            fresh_lower down (fresh_raise low h.rest),
      )

  module _ {n : ℕ} where
    pub next-fresh : (o ok i).t ≡ g.got → NoGap n g s (slot (Frame.Packet number p) ∷ forth) → NoGap (pred n) (getting_one g) s forth
    next-fresh e f = (after_one n f).1 (suc g.got) (omega arith) (omega (arith, e)) (λ z. omega (arith, e))

    pub old_fresh : (o ok i).t < g.got → NoGap n g s (slot (Frame.Packet number p) ∷ forth) → NoGap (pred n) g s forth
    old_fresh h f = (after_one n f).1 g.got (le_refl g.got) (omega arith) (λ z. h)

    -- a fresh packet is never out of order
    pub ahead_fresh : g.got < (o ok i).t → NoGap n g s (slot (Frame.Packet number p) ∷ forth) → (n ≢ 0) × NoGap (pred n) g s forth
    ahead_fresh h f =
        let old : n ≢ 0 = λ z. omega (arith, h, (after_one n f).0 z) in
        (old, (after_one n f).1 g.got (le_refl g.got) (omega arith) (λ z. absurd (old z)))

-- ---- an Ack or a Nak is heard that says that v packets were received: the next does not pass what is received

module _ {link : Setup} {g : Past} {s : Sender} {forth back : List Slot} {r : Receiver} {x : Slot} (i : Direction link g s forth r (x ∷ back))
    (number : Seq) (v : ℕ) (number_is : number ≡ seq (up_to v)) (low : g.acked ≤ v) (high : v ≤ g.got) where
  -- v − A packets are released, of those in the buffer
  releases_are : releases s number ≡ v - g.acked
  releases_are =
      rw (number_is, i.sending.acked_is)
      (minus_ahead 4096 (omega arith) (v + 4095) (g.acked + 4095) (omega (arith, low)) (omega (arith, high, i.numbers)) ∙ omega arith)

  len_left : (acknowledged s number).buffer.len ≡ length g.sent - v
  len_left =
      let enough : releases s number ≤ s.buffer.len = omega (arith, releases_are, low, high, i.numbers, i.sending.buffer_len) in
      let bound : s.buffer.len ≤ capacity = omega (arith, i.sending.buffer_len, i.numbers) in
      len_acknowledged s i.s_arrays number enough bound ∙ omega (arith, releases_are, low, high, i.numbers, i.sending.buffer_len)

  -- a running replay stays at its next packet, or goes on after those acknowledged
  next-moved : (f : Option ℕ) → upcoming (moved (releases s number) (acknowledged s number).buffer.len f) v (length g.sent)
      ≤ max (upcoming f g.acked (length g.sent)) g.got
  next-moved None = omega arith
  next-moved (Some j) =
      by_test (λ (f : Option ℕ). upcoming f v (length g.sent) ≤ max (g.acked + j) g.got) (leb (releases s number) j)
      (λ t. omega (arith, leb-true (releases s number) j t, releases_are, low))
      (λ t.
      by_test (λ (f : Option ℕ). upcoming f v (length g.sent) ≤ max (g.acked + j) g.got) (eqb (acknowledged s number).buffer.len 0)
      (λ u. omega (arith, eqb-true (acknowledged s number).buffer.len 0 u, len_left, high))
      (λ u. omega (arith, high)))

  abbrev AtMost : Sender → Type 0
  AtMost t = next_in (acking g v) t ≤ max (next_in g s) g.got

  -- a Nak's replay starts after those acknowledged
  next-heard : (nak : Bool) → AtMost (if nak then again (acknowledged s number) else acknowledged s number)
  unfolding again acknowledged
  next-heard nak =
      by_test AtMost nak
      (λ e.
      by_test AtMost (eqb (acknowledged s number).buffer.len 0)
      (λ t. next-moved s.replay.at)
      (λ t. rw (begun-at (acknowledged s number).replay) (omega (arith, high))))
      (λ e. next-moved s.replay.at)

pub heard-fresh : {n : ℕ} {link : Setup} {g : Past} {s : Sender} {forth back : List Slot} {r : Receiver} {x : Slot} (nak : Bool)
    → Direction link g s forth r (x ∷ back) → (number : Seq) (v : ℕ) → number ≡ seq (up_to v) → g.acked ≤ v → v ≤ g.got → NoGap n g s forth
    → NoGap n (acking g v) (if nak then again (acknowledged s number) else acknowledged s number) forth
heard-fresh {g = g} {s = s} nak i number v e low high f =
    fresh-next (next_in g s) (next_in (acking g v) (if nak then again (acknowledged s number) else acknowledged s number))
    (next-heard i number v e low high nak) f

-- ---- the line is empty and no replay runs: all that was sent is received

pub rest-fresh : {n : ℕ} {link : Setup} {g : Past} {s : Sender} {back : List Slot} {r : Receiver} → Direction link g s [] r back → NoGap n g s []
    → s.replay.at ≡ None → g.got ≡ length g.sent
rest-fresh i f e = omega (arith, rw e at (fresh-empty f), i.numbers.mid)
