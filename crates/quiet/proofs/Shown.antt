-- What the sender's limits will be, within a quiet round: each event keeps that a slot in use is marked, or that the last update on the line
-- back has what is allocated. At rest the limits are what is allocated. Assumes nothing.
use Rattle.std.specs.Prelude.{Some, None}
use Prim.Native.Nat.{ℕ, ◌*◌, ◌≤◌, ◌<◌}
use mathlib.Core.Path.{◌≡◌, refl, sym, ◌∙◌}
use mathlib.Core.Logic.{inl, inr, ⊎_elim, ◌≢◌, by_cases}
use mathlib.Core.Bool.{true, true≢false}
use mathlib.Core.List.{List, [], ◌∷◌, ◌++◌}
use native.Mathlib.Decide.{ℕ_discrete}
use native.Mathlib.Omega.{arith}
use lib.Dec.{eqb}
use borrow.Author.Tests.{eq-eqb, ne_eqb, eqb-true}
use Rattle.basics.specs.Lists.{all}
use Rattle.basics.proofs.Branches.{and_left, and_right}
use Rattle.counters.specs.declared.Counts.{Counts}
use Rattle.counters.specs.declared.Seq.{Seq}
use Rattle.credits.specs.Credits.{received}
use Rattle.packets.specs.declared.Packet.{Packet}
use Rattle.packets.specs.declared.Category.{Category}
use Rattle.packets.specs.Packets.{slot_of, category_of, packet_answer}
use Rattle.packets.proofs.Numbers.{number_below}
use Rattle.frames.specs.declared.Frame.TheVariants as Frame
use Rattle.frames.specs.declared.Message.TheVariants as Message
use Rattle.line.specs.declared.Slot.{Slot}
use Rattle.line.specs.Line.{slot}
use Rattle.setup.specs.declared.Setup.{Setup}
use Rattle.setup.specs.Setup.{channels, per_end, in_range}
use Rattle.setup.proofs.Range.{few-channels}
use Rattle.sender.specs.declared.Sender.{Sender}
use Rattle.receiver.specs.declared.Receiver.{Receiver}
use Rattle.receiver.specs.Receiver.{room_at, cleared, first_marked, channel_in, category_in, update_frame, told, refreshed}
use Rattle.delivery.specs.Delivery.{stored}
use Rattle.receipts.proofs.Arrays.{Arrays}
use Rattle.receipts.proofs.Changes.{room-stored, room-stored-other}
use Rattle.receipts.proofs.Marks.{room-told-other, marked-refreshed, first_marked_lem, none-marked, channel_in_lem, channel_in_below, slot_in_lem}
use Rattle.amounts.specs.Amounts.{Amount, amount, Fits, wrapped, slot_for, load, given, allowed}
use Rattle.amounts.proofs.Loads.{fits_refl, fits_trans, load-start, load-append, load-none, load-take}
use Rattle.amounts.proofs.Given.{given-none, channel_used}
use Rattle.traffic.specs.Traffic.{a_message, put}
use Rattle.traffic.proofs.Updates.{updates_le}
use Rattle.direction.specs.Direction.{Past, sending_one, getting_one, acking, limiting, Direction}
use Rattle.direction.proofs.Bounds.{taken_fits, units_small}
use Rattle.quiet.specs.Quiet.{Raised, Shown}
use Rattle.quiet.proofs.Raised as Raised

-- ---- a round begins: Refresh marks every slot in use

pub open_shown : {link : Setup} {g : Past} {s : Sender} {forth back : List Slot} {r : Receiver} → in_range link ≡ true
    → Direction link g s forth r back → Shown link g (refreshed r link.n) back
open_shown {link} {r = r} ok i =
    let e = Raised.updates_raised i.updates_ok in
    let fits : 3 * link.n ≤ per_end = omega (arith, few-channels link ok) in
    record {
      top = e.top;
      raised = e.raised;
      most = e.most;
      last = λ j h. inl (marked-refreshed r link.n i.r_arrays fits j h);
    }

module _ {link : Setup} {g : Past} {r : Receiver} {back : List Slot} where
  -- ---- neither a limit nor what is taken changes

  pub sent-shown : (p : Packet) → Shown link g r back → Shown link (sending_one g p) r back
  sent-shown p o = record { top = o.top; raised = o.raised; most = o.most; last = o.last }

  pub got-shown : Shown link g r back → Shown link (getting_one g) r back
  got-shown o = record { top = o.top; raised = o.raised; most = o.most; last = o.last }

  pub acked-shown : (v : ℕ) → Shown link g r back → Shown link (acking g v) r back
  acked-shown v o = record { top = o.top; raised = o.raised; most = o.most; last = o.last }

  -- ---- the marks stay

  marks-shown : (r' : Receiver) → ((j : ℕ) → (room_at r' j).marked ≡ (room_at r j).marked) → Shown link g r back → Shown link g r' back
  marks-shown r' same o = record { top = o.top; raised = o.raised; most = o.most; last = λ j h. rw (same j) (o.last j h) }

  pub reply-shown : (r' : Receiver) → r'.rooms ≡ r.rooms → Shown link g r back → Shown link g r' back
  reply-shown r' e o = marks-shown r' (λ j. rw e) o

  pub stored-shown : Arrays r → (channel : ℕ) → channel < channels → (p : Packet) → Shown link g r back
      → Shown link g (stored r channel p) back
  unfolding received
  stored-shown a channel here p o =
      marks-shown (stored r channel p)
      (λ j. by_cases (ℕ_discrete j (slot_of channel (category_of p)))
      (λ e. rw (e, room-stored r a channel here p))
      (λ n. rw (room-stored-other r channel j p n)))
      o

  cleared-shown : Shown link g r back → Shown link g (cleared r) back
  unfolding cleared
  cleared-shown o = reply-shown _ refl o

-- ---- a frame goes onto the line back: an owed Ack or Nak, a packet of the other direction

module _ {link : Setup} {g : Past} {r : Receiver} {back : List Slot} where
  -- another line back, whose updates end where they ended
  line-shown : {back' : List Slot} (o : Shown link g r back) → Raised g.limit o.top back' → Shown link g r back'
  line-shown o raised = record { top = o.top; raised = raised; most = o.most; last = o.last }

  pub ack-sent-shown : (number : Seq) → Shown link g r back → Shown link g (cleared r) (back ++ (a_message (Message.Ack number) ∷ []))
  ack-sent-shown number o = cleared-shown (line-shown o (Raised.raised_ack-sent number o.raised))

  pub nak-sent-shown : (number : Seq) → Shown link g r back → Shown link g (cleared r) (back ++ (a_message (Message.Nak number) ∷ []))
  nak-sent-shown number o = cleared-shown (line-shown o (Raised.raised_nak-sent number o.raised))

  pub back_passed_shown : (number : Seq) (p : Packet) → Shown link g r back → Shown link g r (back ++ (slot (Frame.Packet number p) ∷ []))
  back_passed_shown number p o = line-shown o (Raised.raised-other number p o.raised)

-- ---- an update goes onto the line back: it has what is allocated

module _ {link : Setup} {g : Past} {s : Sender} {forth back : List Slot} {r : Receiver} where
  pub update_sent-shown : Direction link g s forth r back → (k : ℕ) → first_marked r ≡ Some k → Shown link g r back
      → Shown link g (told r k) (back ++ (slot (update_frame r k) ∷ []))
  unfolding update_frame
  update_sent-shown i k first o =
      let below = (first_marked_lem r i.r_arrays k first).0 in
      let most = allowed link g.taken in
      let high : Fits (o.top (slot_of (channel_in k) (category_in k))) (most k) = rw (slot_in_lem k below) (o.most k) in
      let more = Raised.raised-updated (channel_in k) (category_in k) (most k) high o.raised in
      record {
        top = put o.top k (most k);
        raised = rw (slot_in_lem k below, ← i.rooming.allocated_is k below) at more;
        most = λ j.
            by_cases (ℕ_discrete j k)
            (λ e. rw (e, eq-eqb k k refl) (fits_refl (most k)))
            (λ n. rw (ne_eqb j k n) (o.most j));
        last = λ j h.
            by_cases (ℕ_discrete j k)
            (λ e. inr (rw (e, eq-eqb k k refl)))
            (λ n. rw (ne_eqb j k n, room-told-other r k j n) (o.last j h));
      }

-- ---- the oldest frame leaves the line back

module _ {link : Setup} {g : Past} {r : Receiver} {back : List Slot} where
  pub ack-heard-shown : {number : Seq} → Shown link g r (a_message (Message.Ack number) ∷ back) → Shown link g r back
  ack-heard-shown o = line-shown o (Raised.raised_ack_gone o.raised)

  pub nak-heard-shown : {number : Seq} → Shown link g r (a_message (Message.Nak number) ∷ back) → Shown link g r back
  nak-heard-shown o = line-shown o (Raised.raised_nak_gone o.raised)

  pub packet_gone_shown : {number : Seq} {p : Packet} → Shown link g r (slot (Frame.Packet number p) ∷ back) → Shown link g r back
  packet_gone_shown o = line-shown o (Raised.raised_packet_gone o.raised)

-- an update: its amount is the limit then. What is allocated is at most the setup's units ahead of the limit, so its counts are of one amount
module _ {link : Setup} {g : Past} {s : Sender} {forth back : List Slot} {r : Receiver} {channel : ℕ} {c : Category} {x : Counts} where
  pub update_heard-shown : in_range link ≡ true → Direction link g s forth r (a_message (Message.Update channel c x) ∷ back) → channel < channels
      → (is : Amount) → x ≡ wrapped is → Fits (g.limit (slot_of channel c)) is → Fits is (allowed link g.taken (slot_of channel c))
      → Shown link g r (a_message (Message.Update channel c x) ∷ back) → Shown link (limiting g (slot_of channel c) is) r back
  unfolding allowed
  update_heard-shown ok i here is counts low high o =
      let k = slot_of channel c in
      let u = Raised.raised-heard o.raised in
      let units = units_small link ok channel c here in
      let t = taken_fits i channel c here in
      let n = load-take link g.got g.sent k in
      let w = i.crediting.within k in
      let end : Fits u.is (o.top k) = rw (eq-eqb k k refl) at (Raised.raised-le u.rest k) in
      let same : u.is ≡ is =
      Raised.wrapped_same (g.limit k) (allowed link g.taken k) u.is is u.low (fits_trans end (o.most k)) low high
      (omega (arith, units.0, t.h, n.h, w.h))
      (omega (arith, units.1, t.d, n.d, w.d))
      (sym u.stored ∙ counts) in
      record { top = o.top; raised = rw same at u.rest; most = o.most; last = o.last }

-- ---- at rest: nothing is marked, and nothing is on the line back

pub rest-shown : {link : Setup} {g : Past} {r : Receiver} → Shown link g r [] → first_marked r ≡ None
    → (j : ℕ) → j < 3 * link.n → g.limit j ≡ allowed link g.taken j
rest-shown {r = r} o none j h =
    ⊎_elim
    (λ m. absurd (true≢false (sym m ∙ none-marked r none j)))
    (λ e. Raised.raised-empty o.raised j ∙ e)
    (o.last j h)

-- ---- a channel that is not in use: nothing is given, sent or taken

module _ (link : Setup) (ok : in_range link ≡ true) (j : ℕ) (past : 3 * link.n ≤ j) where
  unused_load : (ps : List Packet) → all (λ p. eqb (packet_answer p) 0) ps ≡ true → load link ps j ≡ amount 0 0
  unused_load [] e = load-start link j
  unused_load (p ∷ ps) e =
      let formed = eqb-true (packet_answer p) 0 (and_left (eqb (packet_answer p) 0) (all (λ p. eqb (packet_answer p) 0) ps) e) in
      let others = and_right (eqb (packet_answer p) 0) (all (λ p. eqb (packet_answer p) 0) ps) e in
      let apart : j ≢ slot_for link p = λ z. omega (arith, z, channel_used link ok p formed, number_below (category_of p)) in
      load-append link (p ∷ []) ps j ∙ rw (load-none link p j apart, unused_load ps others)

nothing : (a : Amount) → Fits a (amount 0 0) → a ≡ amount 0 0
nothing a f = Raised.amount-same a (amount 0 0) (omega (arith, f.h)) (omega (arith, f.d))

module _ {link : Setup} {g : Past} {s : Sender} {forth back : List Slot} {r : Receiver} where
  pub rest_unused : in_range link ≡ true → Direction link g s forth r back → (j : ℕ) → 3 * link.n ≤ j → j < per_end
      → g.limit j ≡ allowed link g.taken j
  unfolding allowed
  rest_unused ok i j past below =
      let channel = channel_in j in
      let c = category_in j in
      let here = channel_in_below j in
      let none : given link j ≡ amount 0 0 =
      rw (slot_in_lem j below) at (given-none link ok channel c (omega (arith, channel_in_lem j below)) here) in
      let t = rw (slot_in_lem j below) at (taken_fits i channel c here) in
      let all-taken : load link g.taken j ≡ amount 0 0 =
      nothing (load link g.taken j)
      (rw (← unused_load link ok j past g.sent i.sending.formed) (fits_trans t (load-take link g.got g.sent j))) in
      let l = updates_le i.updates_ok j in
      nothing (g.limit j) (rw (none, all-taken) at l) ∙ rw (none, all-taken)
