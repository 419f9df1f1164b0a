-- What the sender will be told is kept by each event of a quiet round, and at rest what is acknowledged is what is received.
-- Assumes nothing.
use Rattle.std.specs.Prelude.{if◌then◌else◌, Some, None, Option, ℕ}
use Prim.Native.Nat.{ℕ, pred, ◌-◌, ◌%◌, ◌≤◌}
use mathlib.Core.Path.{◌≡◌, refl, sym, ap, ◌∙◌}
use mathlib.Core.Logic.{◌≢◌}
use mathlib.Core.Bool.{Bool}
use mathlib.Core.List.{List, [], ◌∷◌, ◌++◌}
use native.Mathlib.Omega.{arith}
use native.Mathlib.Nat.{le_refl}
use borrow.Author.Tests.{eqb-true}
use lib.Dec.{leb, eqb}
use lib.ListN.{length}
use Rattle.basics.proofs.Branches.{by_test}
use Rattle.basics.proofs.Finds.{apart}
use Rattle.counters.specs.declared.Counts.{Counts}
use Rattle.counters.specs.declared.Seq.{Seq}
use Rattle.counters.specs.Wrapped.{minus}
use Rattle.counters.specs.Counters.{seq, before_of}
use Rattle.packets.specs.declared.Packet.{Packet}
use Rattle.packets.specs.declared.Category.{Category}
use Rattle.credits.specs.declared.Credit.{Credit}
use Rattle.frames.specs.declared.Frame.TheVariants as Frame
use Rattle.frames.specs.declared.Message.{Message}
use Rattle.frames.specs.declared.Message.TheVariants as Message
use Rattle.line.specs.declared.Slot.{Slot}
use Rattle.line.specs.Line.{slot}
use Rattle.setup.specs.declared.Setup.{Setup}
use Rattle.sender.specs.declared.Sender.{Sender}
use Rattle.sender.specs.Sender.{with_credit, with_replay, begun}
use Rattle.sender.specs.Sources.{replay_frame, replayed, new_packet, new_frame, sent_new}
use Rattle.sender.proofs.Changes.{begun-at}
use Rattle.hearing.specs.Hearing.{releases, moved, acknowledged, again}
use Rattle.receiver.specs.declared.Receiver.{Receiver}
use Rattle.receiver.specs.declared.Reply.{Reply}
use Rattle.receiver.specs.declared.Owed.{Owed}
use Rattle.receiver.specs.declared.Owed.TheVariants as Owed
use Rattle.receiver.specs.Receiver.{room_at, with_reply, cleared, channel_in, category_in, update_frame, told, ack_unless_nak, after_duplicate, after_gap}
use Rattle.receipts.proofs.Changes.{reply-stored}
use Rattle.delivery.specs.Delivery.{stored}
use Rattle.amounts.specs.Amounts.{Amount}
use Rattle.traffic.specs.Traffic.{a_message, up_to}
use Rattle.direction.specs.Direction.{Past, sending_one, getting_one, acking, limiting, Direction}
use Rattle.direction.proofs.Hearing.{Released}
use Rattle.quiet.specs.Quiet.{Silent, silent_end, Said, Told}
use Rattle.quiet.proofs.Said.{Hears, said-le, said-empty, acks-said, said_ack-sent, said_nak-sent, said-updated, said-other, said-heard, said_update_gone, said_packet_gone, silent_append_message, silent_append-packet, silent_older, silent_message_older}

-- ---- what is owed where something is

ack_owed : {B : Type 0} → Owed.Ack ≡ Owed.Nothing → B
ack_owed e = let z : ◌≡◌ {A = ℕ} 0 1 = cc in absurd (omega arith)

nak_owed : {B : Type 0} → Owed.Nak ≡ Owed.Nothing → B
nak_owed e = let z : ◌≡◌ {A = ℕ} 0 1 = cc in absurd (omega arith)

-- after a duplicate something is owed
duplicate_owed : {B : Type 0} (x : Owed) → ack_unless_nak x ≡ Owed.Nothing → B
duplicate_owed Owed.Nothing e = ack_owed e
duplicate_owed Owed.Ack e = ack_owed e
duplicate_owed Owed.Nak e = nak_owed e

-- after a gap nothing is owed only if nothing was
gap_owed : (x : Reply) → (after_gap x).owed ≡ Owed.Nothing → x.owed ≡ Owed.Nothing
gap_owed x =
    by_test (λ (y : Reply). y.owed ≡ Owed.Nothing → x.owed ≡ Owed.Nothing) x.nak_sent
    (λ t e. e)
    (λ t e. nak_owed e)

-- next-receive − 1, where `got` packets are received
before-got : (x : Seq) (got : ℕ) → x ≡ seq (got % 4096) → before_of x ≡ seq (up_to got)
unfolding minus
before-got x got e = rw e (ap seq (omega arith))

-- the last count on the line back is what is received
all_told : {n : ℕ} {g : Past} {s : Sender} {forth back : List Slot} {r : Receiver} → Said g.acked g.got back → Told n g s forth r back
all_told {g = g} o = record { z = g.got; said = o; most = le_refl g.got; last = λ q e f. refl }

-- ---- opening

module _ {n : ℕ} {link : Setup} {g : Past} {s : Sender} {forth back : List Slot} {r : Receiver} (i : Direction link g s forth r back) where
  -- Timer starts a replay
  pub open_told : Told n g (with_replay s (begun s.replay)) forth r back
  open_told =
      let x = acks-said i.acks_ok in
      record { z = x.z; said = x.said; most = x.most; last = λ q e f. apart 0 (sym e ∙ begun-at s.replay) }

  -- nothing is unacknowledged: all counts on the line back are what is received
  pub open_idle_told : s.buffer.len ≡ 0 → Told n g s forth r back
  open_idle_told idle =
      let x = acks-said i.acks_ok in
      let e : x.z ≡ g.got = omega (arith, said-le x.said, x.most, i.numbers, i.sending.buffer_len) in
      all_told (rw e at x.said)

-- ---- updates are marked

module _ {n : ℕ} {g : Past} {s : Sender} {forth back : List Slot} {r : Receiver} where
  pub marked-told : {r' : Receiver} → r'.reply ≡ r.reply → Told n g s forth r back → Told n g s forth r' back
  marked-told same o = record { z = o.z; said = o.said; most = o.most; last = λ q e f. o.last q e (rw same at f) }

  -- ---- a frame goes onto the line forth: a new packet, one of a replay, a link message of the other direction

  pub new_told : (channel place : ℕ) → Told n g s forth r back → n ≤ length forth
      → Told n (sending_one g (new_packet s channel place)) (sent_new s channel place) (forth ++ (slot (new_frame s channel place) ∷ [])) r back
  new_told channel place o few =
      record {
        z = o.z;
        said = o.said;
        most = o.most;
        last = λ q e f. absurd (silent_append-packet s.next (new_packet s channel place) forth q few);
      }

  pub again-told : (j : ℕ) → Told n g s forth r back → n ≤ length forth → Told n g (replayed s j) (forth ++ (slot (replay_frame s j) ∷ [])) r back
  again-told j o few =
      record { z = o.z; said = o.said; most = o.most; last = λ q e f. absurd (silent_append-packet _ _ forth q few) }

  pub passed_told : (m : Message) → Told n g s forth r back → n ≤ length forth → Told n g s (forth ++ (a_message m ∷ [])) r back
  passed_told m o few =
      record { z = o.z; said = o.said; most = o.most; last = λ q e f. o.last (silent_append_message m forth q few) e f }

  -- ---- a frame goes onto the line back: an owed Ack or Nak, an update, a packet of the other direction

  pub ack-sent-told : {link : Setup} → Direction link g s forth r back → Told n g s forth r back
      → Told n g s forth (cleared r) (back ++ (a_message (Message.Ack (before_of r.reply.next_receive)) ∷ []))
  ack-sent-told i o = all_told (rw (before-got r.reply.next_receive g.got i.receiving.next_is) (said_ack-sent g.got o.most o.said))

  pub nak-sent-told : {link : Setup} → Direction link g s forth r back → Told n g s forth r back
      → Told n g s forth (cleared r) (back ++ (a_message (Message.Nak (before_of r.reply.next_receive)) ∷ []))
  nak-sent-told i o = all_told (rw (before-got r.reply.next_receive g.got i.receiving.next_is) (said_nak-sent g.got o.most o.said))

  pub update_sent-told : (k : ℕ) → Told n g s forth r back → Told n g s forth (told r k) (back ++ (slot (update_frame r k) ∷ []))
  unfolding told update_frame
  update_sent-told k o =
      record {
        z = o.z;
        said = said-updated (channel_in k) (category_in k) (room_at r k).allocated o.said;
        most = o.most;
        last = o.last;
      }

  pub back_passed_told : (number : Seq) (p : Packet) → Told n g s forth r back → Told n g s forth r (back ++ (slot (Frame.Packet number p) ∷ []))
  back_passed_told number p o = record { z = o.z; said = said-other number p o.said; most = o.most; last = o.last }

  -- ---- the oldest frame of the line forth arrives

  -- in sequence: an Ack is owed
  pub next-told : {x : Slot} (channel : ℕ) (p : Packet) → Told n g s (x ∷ forth) r back
      → Told (pred n) (getting_one g) s forth (stored r channel p) back
  next-told channel p o =
      record {
        z = o.z;
        said = o.said;
        most = omega (arith, o.most);
        last = λ q e f. ack_owed (rw (reply-stored r channel p) at f);
      }

  -- a duplicate: an Ack or a Nak is owed
  pub old_told : {x : Slot} → Told n g s (x ∷ forth) r back → Told (pred n) g s forth (with_reply r (after_duplicate r.reply)) back
  old_told o = record { z = o.z; said = o.said; most = o.most; last = λ q e f. duplicate_owed r.reply.owed f }

  -- out of order, an old frame: a Nak is owed, or what is owed stays as it was
  pub ahead_told : {x : Slot} → n ≢ 0 → Told n g s (x ∷ forth) r back → Told (pred n) g s forth (with_reply r (after_gap r.reply)) back
  ahead_told some o =
      record { z = o.z; said = o.said; most = o.most; last = λ q e f. o.last (silent_older n some q) e (gap_owed r.reply f) }

  pub message_told : {m : Message} → Told n g s (a_message m ∷ forth) r back → Told (pred n) g s forth r back
  message_told o = record { z = o.z; said = o.said; most = o.most; last = λ q e f. o.last (silent_message_older n q) e f }

  -- ---- the oldest frame of the line back arrives: an update, a packet of the other direction

  pub limited-told : {channel : ℕ} {c : Category} {counts : Counts} (k : ℕ) (x : Amount) (credit : Credit)
      → Told n g s forth r (a_message (Message.Update channel c counts) ∷ back) → Told n (limiting g k x) (with_credit s k credit) forth r back
  limited-told k x credit o = record { z = o.z; said = said_update_gone o.said; most = o.most; last = o.last }

  pub back_gone_told : {number : Seq} {p : Packet} → Told n g s forth r (slot (Frame.Packet number p) ∷ back) → Told n g s forth r back
  back_gone_told o = record { z = o.z; said = said_packet_gone o.said; most = o.most; last = o.last }

-- ---- an Ack or a Nak is heard

-- a running replay ends only if nothing is left
moved_ended : (k left i : ℕ) → moved k left (Some i) ≡ None → left ≡ 0
moved_ended k left i =
    let P : Option ℕ → Type 0 = λ f. f ≡ None → left ≡ 0 in
    by_test P (leb k i)
    (λ t e. apart (i - k) (sym e))
    (λ t. by_test P (eqb left 0) (λ u e. eqb-true left 0 u) (λ u e. apart 0 (sym e)))

replay_ended : (s : Sender) (number : Seq) (nak : Bool) (k : ℕ) → s.replay.at ≡ Some k
    → (if nak then again (acknowledged s number) else acknowledged s number).replay.at ≡ None
    → (if nak then again (acknowledged s number) else acknowledged s number).buffer.len ≡ 0
unfolding acknowledged again
replay_ended s number nak k runs =
    let t = acknowledged s number in
    let P : Sender → Type 0 = λ x. x.replay.at ≡ None → x.buffer.len ≡ 0 in
    by_test P nak
    (λ u. by_test P (eqb t.buffer.len 0) (λ w e. eqb-true t.buffer.len 0 w) (λ w e. apart 0 (sym e ∙ begun-at t.replay)))
    (λ u e. moved_ended (releases s number) t.buffer.len k (rw runs at e))

module _ {n : ℕ} {link : Setup} {g : Past} {s : Sender} {forth back : List Slot} {r : Receiver} {number : Seq} (nak : Bool)
    (i : Direction link g s forth r (a_message (if nak then Message.Nak number else Message.Ack number) ∷ back))
    (h : Released nak link g s forth r back number)
    (o : Told n g s forth r (a_message (if nak then Message.Nak number else Message.Ack number) ∷ back)) where
  heard : Hears g.acked o.z number back
  heard = said-heard nak o.said

  -- both say the same count: there is one between what is acknowledged and what is received
  same : heard.v ≡ h.v
  same =
      let e : up_to heard.v ≡ up_to h.v = ap (λ (x : Seq). x.0) (sym heard.number_is ∙ h.number_is) in
      omega (arith, heard.low, said-le heard.rest, o.most, h.low, h.high, i.numbers)

  pub heard-told : Told n (acking g h.v) (if nak then again (acknowledged s number) else acknowledged s number) forth r back
  heard-told =
      record { z = o.z; said = rw same at heard.rest; most = o.most; last = λ q e f. go s.replay.at refl q e f }
    where
      -- no replay ran before, or it ends since all is acknowledged
      go : (x : Option ℕ) → s.replay.at ≡ x → Silent n forth
          → (if nak then again (acknowledged s number) else acknowledged s number).replay.at ≡ None
          → r.reply.owed ≡ Owed.Nothing → o.z ≡ g.got
      go None is q e f = o.last q is f
      go (Some k) is q e f =
          omega (arith, replay_ended s number nak k is e, h.keeps.sending.buffer_len, same, said-le heard.rest, o.most, h.high, i.numbers)

-- ---- at rest

pub rest-told : {g : Past} {s : Sender} {r : Receiver} → Told 0 g s [] r [] → s.replay.at ≡ None → r.reply.owed ≡ Owed.Nothing → g.acked ≡ g.got
rest-told o e f = said-empty o.said ∙ o.last silent_end e f
