-- Laws of the Acks and Naks on the line back: one more at its end, one less at its front, more received.
-- Assumes nothing.
use Prim.Native.Nat.{ℕ, ◌≤◌}
use mathlib.Core.Path.{◌≡◌, refl}
use mathlib.Core.List.{List, [], ◌∷◌, ◌++◌}
use native.Mathlib.Nat.{le_refl, le_trans}
use Rattle.counters.specs.declared.Counts.{Counts}
use Rattle.counters.specs.declared.Seq.{Seq}
use Rattle.counters.specs.Counters.{seq}
use Rattle.packets.specs.declared.Packet.{Packet}
use Rattle.packets.specs.declared.Category.{Category}
use Rattle.frames.specs.declared.Frame.TheVariants as Frame
use Rattle.frames.specs.declared.Message.TheVariants as Message
use Rattle.line.specs.declared.Slot.{Slot}
use Rattle.line.specs.Line.{slot}
use Rattle.traffic.specs.Traffic.{a_message, up_to, Acks, acks_end, acks_ack, acks_nak, acks_update, acks_packet}

pub acks-le : {a r : ℕ} {l : List Slot} → Acks a r l → a ≤ r
acks-le (acks_end h) = h
acks-le (acks_ack v h o) = le_trans h (acks-le o)
acks-le (acks_nak v h o) = le_trans h (acks-le o)
acks-le (acks_update o) = acks-le o
acks-le (acks_packet o) = acks-le o

pub acks_lower : {a b r : ℕ} {l : List Slot} → a ≤ b → Acks b r l → Acks a r l
acks_lower h (acks_end k) = acks_end (le_trans h k)
acks_lower h (acks_ack v k o) = acks_ack v (le_trans h k) o
acks_lower h (acks_nak v k o) = acks_nak v (le_trans h k) o
acks_lower h (acks_update o) = acks_update (acks_lower h o)
acks_lower h (acks_packet o) = acks_packet (acks_lower h o)

-- more is received
pub acks-more : {a r q : ℕ} {l : List Slot} → r ≤ q → Acks a r l → Acks a q l
acks-more h (acks_end k) = acks_end (le_trans k h)
acks-more h (acks_ack v k o) = acks_ack v k (acks-more h o)
acks-more h (acks_nak v k o) = acks_nak v k (acks-more h o)
acks-more h (acks_update o) = acks_update (acks-more h o)
acks-more h (acks_packet o) = acks_packet (acks-more h o)

-- ---- a frame goes onto the line

-- one line after another: the second goes on where the first ends
acks_join : {a r q : ℕ} {l k : List Slot} → Acks a r l → Acks r q k → Acks a q (l ++ k)
acks_join (acks_end h) x = acks_lower h x
acks_join (acks_ack v h o) x = acks_ack v h (acks_join o x)
acks_join (acks_nak v h o) x = acks_nak v h (acks_join o x)
acks_join (acks_update o) x = acks_update (acks_join o x)
acks_join (acks_packet o) x = acks_packet (acks_join o x)

none : {r : ℕ} → Acks r r []
none {r} = acks_end (le_refl r)

module _ {a r : ℕ} {l : List Slot} where
  pub acks-acked : Acks a r l → Acks a r (l ++ (a_message (Message.Ack (seq (up_to r))) ∷ []))
  acks-acked o = acks_join o (acks_ack r (le_refl r) none)

  pub acks_nak-sent : Acks a r l → Acks a r (l ++ (a_message (Message.Nak (seq (up_to r))) ∷ []))
  acks_nak-sent o = acks_join o (acks_nak r (le_refl r) none)

  pub acks-updated : (channel : ℕ) (c : Category) (x : Counts) → Acks a r l → Acks a r (l ++ (a_message (Message.Update channel c x) ∷ []))
  acks-updated channel c x o = acks_join o (acks_update none)

  pub acks-other : (number : Seq) (p : Packet) → Acks a r l → Acks a r (l ++ (slot (Frame.Packet number p) ∷ []))
  acks-other number p o = acks_join o (acks_packet none)

-- ---- the oldest frame leaves

pub acks-rest : {a r : ℕ} {x : Slot} {l : List Slot} → Acks a r (x ∷ l) → Acks a r l
acks-rest (acks_ack v h o) = acks_lower h o
acks-rest (acks_nak v h o) = acks_lower h o
acks-rest (acks_update o) = o
acks-rest (acks_packet o) = o

-- what is known of the number of an Ack or Nak that is the oldest frame: it says that v packets were received, and the others say no less
pub record Heard (a r : ℕ) (number : Seq) (l : List Slot) : Type 0 where
  pub v : ℕ
  pub number_is : number ≡ seq (up_to v)
  pub low : a ≤ v
  pub rest : Acks v r l

pub acks_ack-heard : {a r : ℕ} {number : Seq} {l : List Slot} → Acks a r (a_message (Message.Ack number) ∷ l) → Heard a r number l
acks_ack-heard (acks_ack v h o) = record { v = v; number_is = refl; low = h; rest = o }

pub acks_nak-heard : {a r : ℕ} {number : Seq} {l : List Slot} → Acks a r (a_message (Message.Nak number) ∷ l) → Heard a r number l
acks_nak-heard (acks_nak v h o) = record { v = v; number_is = refl; low = h; rest = o }
