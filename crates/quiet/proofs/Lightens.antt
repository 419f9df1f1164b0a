-- An arrival adds at most the weight of one link message to an end's burden: a packet makes at most one Ack or Nak owed, an Ack does not make
-- more of what is left of a replay, and an update changes nothing. Assumes nothing.
use Rattle.std.specs.Prelude.{Some, None, Option, ℕ}
use Prim.Native.Nat.{ℕ, ◌+◌, ◌-◌, ◌≤◌, ◌<◌}
use mathlib.Core.Path.{◌≡◌, refl, ◌∙◌}
use mathlib.Core.List.{List}
use native.Mathlib.Nat.{le_refl}
use native.Mathlib.Omega.{arith}
use borrow.Author.Tests.{leb-true, leb-false}
use lib.Dec.{leb, eqb}
use Rattle.basics.proofs.Branches.{by_test}
use Rattle.counters.specs.declared.Seq.{Seq}
use Rattle.counters.specs.Counters.{seq}
use Rattle.counters.proofs.Wrap.{minus_ahead}
use Rattle.packets.specs.declared.Packet.{Packet}
use Rattle.packets.specs.Packets.{category_of, need_of, slot_of}
use Rattle.credits.specs.declared.Credit.{Credit}
use Rattle.credits.specs.Credits.{none, room_of, received}
use Rattle.line.specs.declared.Slot.{Slot}
use Rattle.setup.specs.declared.Setup.{Setup}
use Rattle.setup.specs.Setup.{channels}
use Rattle.sender.specs.declared.Sender.{Sender}
use Rattle.sender.specs.Sender.{with_credit}
use Rattle.sender.proofs.Slots.{slot_below}
use Rattle.hearing.specs.Hearing.{releases, moved, acknowledged}
use Rattle.hearing.proofs.Heard.{len_acknowledged}
use Rattle.receiver.specs.declared.Owed.{Owed}
use Rattle.receiver.specs.declared.Owed.TheVariants as Owed
use Rattle.receiver.specs.declared.Reply.{Reply}
use Rattle.receiver.specs.declared.Receiver.{Receiver}
use Rattle.receiver.specs.Receiver.{room_at, is_marked, with_reply}
use Rattle.receipts.proofs.Arrays.{Arrays}
use Rattle.delivery.specs.Delivery.{stored}
use Rattle.traffic.specs.Traffic.{up_to}
use Rattle.direction.specs.Direction.{Past, Direction}
use Rattle.quiet.specs.Burden.{queued, left, owing, marks, burden}
use Rattle.quiet.proofs.Burden.{count_set}

-- ---- a packet

pub owing-most : (o : Owed) → owing o ≤ 1
owing-most Owed.Nothing = omega arith
owing-most Owed.Ack = omega arith
owing-most Owed.Nak = omega arith

-- another reply: a duplicate or a packet out of order
pub reply-burden : (s : Sender) (r : Receiver) (x : Reply) → burden s (with_reply r x) ≤ burden s r + 1
unfolding burden marks
reply-burden s r x = omega (arith, owing-most x.owed)

-- it is stored, and an Ack is owed: no update is marked by it
pub stored-burden : (s : Sender) {r : Receiver} → Arrays r → {channel : ℕ} → channel < channels → (p : Packet) → burden s (stored r channel p) ≤ burden s r + 1
unfolding burden stored marks received
stored-burden s {r} a {channel} here p =
    let k = slot_of channel (category_of p) in
    let same = count_set is_marked r.rooms k (received (room_at r k) (need_of p)) (room_of none) (omega (arith, a.rooms_are, slot_below channel (category_of p) here)) in
    omega (arith, same)

-- ---- an Ack

-- a running replay stays at its next packet, or goes on at the oldest left, which is a later one
left-moved : (k len : ℕ) (x : Option ℕ) → k ≤ len → left (moved k (len - k) x) (len - k) ≤ left x len
left-moved k len None h = le_refl 0
left-moved k len (Some j) h =
    by_test (λ (x : Option ℕ). left x (len - k) ≤ len - j) (leb k j)
    (λ t. omega (arith, leb-true k j t))
    (λ t. by_test (λ (x : Option ℕ). left x (len - k) ≤ len - j) (eqb (len - k) 0) (λ u. omega arith) (λ u. omega (arith, leb-false k j t)))

pub acked-burden : {link : Setup} {g : Past} {s : Sender} {forth back : List Slot} {q : Receiver} {number : Seq} {v : ℕ} → Direction link g s forth q back
    → number ≡ seq (up_to v) → g.acked ≤ v → v ≤ g.got → (r : Receiver) → burden (acknowledged s number) r ≤ burden s r
unfolding burden queued acknowledged
acked-burden {g} {s} {number} {v} i is low high r =
    let k : releases s number ≡ v - g.acked =
    rw (is, i.sending.acked_is)
    (minus_ahead 4096 (omega arith) (v + 4095) (g.acked + 4095) (omega arith) (omega (arith, i.numbers)) ∙ omega arith) in
    let enough : releases s number ≤ s.buffer.len = omega (arith, i.numbers, i.sending.buffer_len) in
    let len = len_acknowledged s i.s_arrays number enough (omega (arith, i.sending.buffer_len, i.numbers)) in
    rw len (omega (arith, left-moved (releases s number) s.buffer.len s.replay.at enough))

-- ---- an update

pub limited-burden : (s : Sender) (r : Receiver) (k : ℕ) (c : Credit) → burden (with_credit s k c) r ≡ burden s r
unfolding burden queued
limited-burden s r k c = refl
