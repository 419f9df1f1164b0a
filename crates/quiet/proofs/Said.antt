-- Laws of the counts that the line back says, and of a line forth with no fresh packet: one frame more at the end, one less at the front.
-- Assumes nothing.
use Rattle.std.specs.Prelude.{if◌then◌else◌}
use Prim.Native.Nat.{ℕ, zero, suc, pred, ◌≤◌}
use mathlib.Core.Path.{◌≡◌, refl}
use mathlib.Core.Logic.{◌≢◌}
use mathlib.Core.Bool.{Bool, true, false}
use mathlib.Core.List.{List, [], ◌∷◌, ◌++◌}
use native.Mathlib.Omega.{arith}
use native.Mathlib.Nat.{le_refl, le_trans}
use lib.ListN.{length}
use Rattle.counters.specs.declared.Counts.{Counts}
use Rattle.counters.specs.declared.Seq.{Seq}
use Rattle.counters.specs.Counters.{seq}
use Rattle.packets.specs.declared.Packet.{Packet}
use Rattle.packets.specs.declared.Category.{Category}
use Rattle.frames.specs.declared.Frame.TheVariants as Frame
use Rattle.frames.specs.declared.Message.{Message}
use Rattle.frames.specs.declared.Message.TheVariants as Message
use Rattle.line.specs.declared.Slot.{Slot}
use Rattle.line.specs.Line.{slot}
use Rattle.traffic.specs.Traffic.{a_message, up_to, Acks, acks_end, acks_ack, acks_nak, acks_update, acks_packet}
use Rattle.quiet.specs.Quiet.{Silent, silent_end, silent_old, silent_message, Said, said_end, said_ack, said_nak, said_update, said_packet}

-- ---- the counts

pub said-le : {a z : ℕ} {l : List Slot} → Said a z l → a ≤ z
said-le {a} said_end = le_refl a
said-le (said_ack v h o) = le_trans h (said-le o)
said-le (said_nak v h o) = le_trans h (said-le o)
said-le (said_update o) = said-le o
said-le (said_packet o) = said-le o

pub said-empty : {a z : ℕ} → Said a z [] → a ≡ z
said-empty said_end = refl

-- on any line back the last count is some count, at most what is received
pub record Says (a r : ℕ) (l : List Slot) : Type 0 where
  pub z : ℕ
  pub said : Said a z l
  pub most : z ≤ r

pub acks-said : {a r : ℕ} {l : List Slot} → Acks a r l → Says a r l
acks-said {a} (acks_end h) = record { z = a; said = said_end; most = h }
acks-said (acks_ack v h o) = let x = acks-said o in record { z = x.z; said = said_ack v h x.said; most = x.most }
acks-said (acks_nak v h o) = let x = acks-said o in record { z = x.z; said = said_nak v h x.said; most = x.most }
acks-said (acks_update o) = let x = acks-said o in record { z = x.z; said = said_update x.said; most = x.most }
acks-said (acks_packet o) = let x = acks-said o in record { z = x.z; said = said_packet x.said; most = x.most }

-- ---- a frame goes onto the line back

-- one line after another: the second goes on where the first ends
said_join : {a z q : ℕ} {l k : List Slot} → Said a z l → Said z q k → Said a q (l ++ k)
said_join said_end x = x
said_join (said_ack v h o) x = said_ack v h (said_join o x)
said_join (said_nak v h o) x = said_nak v h (said_join o x)
said_join (said_update o) x = said_update (said_join o x)
said_join (said_packet o) x = said_packet (said_join o x)

module _ {a z : ℕ} {l : List Slot} where
  pub said_ack-sent : (r : ℕ) → z ≤ r → Said a z l → Said a r (l ++ (a_message (Message.Ack (seq (up_to r))) ∷ []))
  said_ack-sent r h o = said_join o (said_ack r h said_end)

  pub said_nak-sent : (r : ℕ) → z ≤ r → Said a z l → Said a r (l ++ (a_message (Message.Nak (seq (up_to r))) ∷ []))
  said_nak-sent r h o = said_join o (said_nak r h said_end)

  pub said-updated : (channel : ℕ) (c : Category) (x : Counts) → Said a z l → Said a z (l ++ (a_message (Message.Update channel c x) ∷ []))
  said-updated channel c x o = said_join o (said_update said_end)

  pub said-other : (number : Seq) (p : Packet) → Said a z l → Said a z (l ++ (slot (Frame.Packet number p) ∷ []))
  said-other number p o = said_join o (said_packet said_end)

-- ---- the oldest frame leaves the line back

-- what is known of the number of an Ack or Nak that is the oldest frame: it says that v packets were received, and the others go on from there
pub record Hears (a z : ℕ) (number : Seq) (l : List Slot) : Type 0 where
  pub v : ℕ
  pub number_is : number ≡ seq (up_to v)
  pub low : a ≤ v
  pub rest : Said v z l

pub said_ack-heard : {a z : ℕ} {number : Seq} {l : List Slot} → Said a z (a_message (Message.Ack number) ∷ l) → Hears a z number l
said_ack-heard (said_ack v h o) = record { v = v; number_is = refl; low = h; rest = o }

pub said_nak-heard : {a z : ℕ} {number : Seq} {l : List Slot} → Said a z (a_message (Message.Nak number) ∷ l) → Hears a z number l
said_nak-heard (said_nak v h o) = record { v = v; number_is = refl; low = h; rest = o }

pub said_packet_gone : {a z : ℕ} {number : Seq} {p : Packet} {l : List Slot} → Said a z (slot (Frame.Packet number p) ∷ l) → Said a z l
said_packet_gone (said_packet o) = o

pub said_update_gone : {a z channel : ℕ} {c : Category} {x : Counts} {l : List Slot} → Said a z (a_message (Message.Update channel c x) ∷ l) → Said a z l
said_update_gone (said_update o) = o

pub said-heard : {a z : ℕ} {number : Seq} {l : List Slot} (nak : Bool)
    → Said a z (a_message (if nak then Message.Nak number else Message.Ack number) ∷ l) → Hears a z number l
said-heard true o = said_nak-heard o
said-heard false o = said_ack-heard o

-- ---- no fresh packet on the line forth

-- the newest frame is a link message: none among those before it
pub silent_append_message : {n : ℕ} (m : Message) (l : List Slot) → Silent n (l ++ (a_message m ∷ [])) → n ≤ length l → Silent n l
silent_append_message m [] (silent_old o) few = absurd (omega arith)
silent_append_message m [] (silent_message o) few = silent_end
silent_append_message m (x ∷ l) (silent_old o) few = silent_old (silent_append_message m l o (omega arith))
silent_append_message m (x ∷ l) (silent_message o) few = silent_message (silent_append_message m l o (omega arith))

-- the newest frame is a packet: it is fresh
pub silent_append-packet : {n : ℕ} (number : Seq) (p : Packet) (l : List Slot) → Silent n (l ++ (slot (Frame.Packet number p) ∷ [])) → n ≤ length l → ⊥
silent_append-packet number p [] (silent_old o) few = omega arith
silent_append-packet number p (x ∷ l) (silent_old o) few = silent_append-packet number p l o (omega arith)
silent_append-packet number p (x ∷ l) (silent_message o) few = silent_append-packet number p l o (omega arith)

-- the oldest frame was old, or a link message: none among the others, so none with it
pub silent_older : {x : Slot} {l : List Slot} (n : ℕ) → n ≢ 0 → Silent (pred n) l → Silent n (x ∷ l)
silent_older zero some o = absurd (some refl)
silent_older (suc n) some o = silent_old o

pub silent_message_older : {m : Message} {l : List Slot} (n : ℕ) → Silent (pred n) l → Silent n (a_message m ∷ l)
silent_message_older zero o = silent_message o
silent_message_older (suc n) o = silent_old o
