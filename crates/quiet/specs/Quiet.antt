-- One direction within a quiet round: nothing is lost, damaged, submitted or taken. The first frames on a line may be from before the round
-- (old); of the later ones (fresh) it is known that the packets leave no gap. Assumes nothing.
use Rattle.std.specs.Prelude.{ℕ, zero, suc, ◌+◌, ◌*◌, ◌%◌, ◌≤◌, ◌<◌, max, ◌≡◌, ◌⊎◌, true, List, [], ◌∷◌, length, Some, None, Option}
use Rattle.counters.specs.declared.Counts.{Counts}
use Rattle.counters.specs.declared.Seq.{Seq}
use Rattle.counters.specs.Counters.{seq}
use Rattle.packets.specs.declared.Packet.{Packet}
use Rattle.packets.specs.declared.Category.{Category}
use Rattle.packets.specs.Packets.{slot_of}
use Rattle.frames.specs.declared.Frame.TheVariants as Frame
use Rattle.frames.specs.declared.Message.{Message}
use Rattle.frames.specs.declared.Message.TheVariants as Message
use Rattle.line.specs.declared.Slot.{Slot}
use Rattle.line.specs.Line.{slot}
use Rattle.setup.specs.declared.Setup.{Setup}
use Rattle.sender.specs.declared.Sender.{Sender}
use Rattle.receiver.specs.declared.Receiver.{Receiver}
use Rattle.receiver.specs.declared.Owed.TheVariants as Owed
use Rattle.receiver.specs.Receiver.{room_at}
use Rattle.amounts.specs.Amounts.{Amount, Fits, wrapped, allowed}
use Rattle.traffic.specs.Traffic.{a_packet, a_message, up_to, put}
use Rattle.direction.specs.Direction.{Past, Direction}

-- ---- no gap

-- the number of the next packet that the sender will send: the replay's next, or a new one
abbrev pub upcoming : Option ℕ → ℕ → ℕ → ℕ
upcoming (Some j) acked sent = acked + j
upcoming None acked sent = sent

-- the first n frames are old. Each packet is the one sent as number t, and lies at most 16 behind `most`, as on any line. Of the fresh packets
-- each number is at most b: what is received when it comes to its turn. `next`, the number of the next packet to be sent, is at most what is
-- then received
pub data Fresh (sent : List Packet) : ℕ → ℕ → ℕ → ℕ → List Slot → Type 0 where
  fresh_end : {most b next : ℕ} → next ≤ b → Fresh sent 0 most b next []
  old_packet : {n most b next : ℕ} {l : List Slot} (t : ℕ) → t < length sent → most ≤ t + 16 → Fresh sent n (max most (suc t)) b next l
      → Fresh sent (suc n) most b next (a_packet sent t ∷ l)
  old_message : {n most b next : ℕ} {l : List Slot} {m : Message} → Fresh sent n most b next l → Fresh sent (suc n) most b next (a_message m ∷ l)
  fresh_packet : {most b next : ℕ} {l : List Slot} (t : ℕ) → t < length sent → most ≤ t + 16 → t ≤ b → Fresh sent 0 (max most (suc t)) (max b (suc t)) next l
      → Fresh sent 0 most b next (a_packet sent t ∷ l)
  fresh_message : {most b next : ℕ} {l : List Slot} {m : Message} → Fresh sent 0 most b next l → Fresh sent 0 most b next (a_message m ∷ l)

-- ---- what the sender will be told

-- no packet among the fresh frames
pub data Silent : ℕ → List Slot → Type 0 where
  silent_end : Silent 0 []
  silent_old : {n : ℕ} {x : Slot} {l : List Slot} → Silent n l → Silent (suc n) (x ∷ l)
  silent_message : {l : List Slot} {m : Message} → Silent 0 l → Silent 0 (a_message m ∷ l)

-- Acks and Naks on the line back: their counts go up from a to exactly z
pub data Said : ℕ → ℕ → List Slot → Type 0 where
  said_end : {z : ℕ} → Said z z []
  said_ack : {a z : ℕ} {l : List Slot} (v : ℕ) → a ≤ v → Said v z l → Said a z (a_message (Message.Ack (seq (up_to v))) ∷ l)
  said_nak : {a z : ℕ} {l : List Slot} (v : ℕ) → a ≤ v → Said v z l → Said a z (a_message (Message.Nak (seq (up_to v))) ∷ l)
  said_update : {a z : ℕ} {l : List Slot} {channel : ℕ} {c : Category} {x : Counts} → Said a z l → Said a z (a_message (Message.Update channel c x) ∷ l)
  said_packet : {a z : ℕ} {l : List Slot} {number : Seq} {p : Packet} → Said a z l → Said a z (slot (Frame.Packet number p) ∷ l)

-- where no fresh packet is on the way, no replay runs and nothing is owed, the last count on the line back is what is received
pub record Told (n : ℕ) (g : Past) (s : Sender) (forth : List Slot) (r : Receiver) (back : List Slot) : Type 0 where
  pub z : ℕ
  pub said : Said g.acked z back
  pub most : z ≤ g.got
  pub last : Silent n forth → s.replay.at ≡ None → r.reply.owed ≡ Owed.Nothing → z ≡ g.got

-- ---- which limits the sender will have

-- updates on the line back: by slot they go up from the limit to exactly `top`
pub data Raised : (ℕ → Amount) → (ℕ → Amount) → List Slot → Type 0 where
  raised_end : {lo top : ℕ → Amount} → ((j : ℕ) → lo j ≡ top j) → Raised lo top []
  raised_update : {lo top : ℕ → Amount} {l : List Slot} (channel : ℕ) (c : Category) (x : Amount) → Fits (lo (slot_of channel c)) x
      → Raised (put lo (slot_of channel c) x) top l → Raised lo top (a_message (Message.Update channel c (wrapped x)) ∷ l)
  raised_ack : {lo top : ℕ → Amount} {l : List Slot} {number : Seq} → Raised lo top l → Raised lo top (a_message (Message.Ack number) ∷ l)
  raised_nak : {lo top : ℕ → Amount} {l : List Slot} {number : Seq} → Raised lo top l → Raised lo top (a_message (Message.Nak number) ∷ l)
  raised_packet : {lo top : ℕ → Amount} {l : List Slot} {number : Seq} {p : Packet} → Raised lo top l → Raised lo top (slot (Frame.Packet number p) ∷ l)

-- each slot in use is marked, or the last update on the line back has what is allocated
pub record Shown (link : Setup) (g : Past) (r : Receiver) (back : List Slot) : Type 0 where
  pub top : ℕ → Amount
  pub raised : Raised g.limit top back
  pub most : (j : ℕ) → Fits (top j) (allowed link g.taken j)
  pub last : (j : ℕ) → j < 3 * link.n → ((room_at r j).marked ≡ true) ⊎ (top j ≡ allowed link g.taken j)

-- ---- the three together, where n frames on the line forth are old

pub record Live (n : ℕ) (link : Setup) (g : Past) (s : Sender) (forth : List Slot) (r : Receiver) (back : List Slot) : Type 0 where
  pub fresh : Fresh g.sent n g.got g.got (upcoming s.replay.at g.acked (length g.sent)) forth
  pub told : Told n g s forth r back
  pub shown : Shown link g r back

-- ---- no Nak

-- no Nak on a line past its first m frames
pub data Calm : ℕ → List Slot → Type 0 where
  calm_end : Calm 0 []
  calm_some : {m : ℕ} {x : Slot} {l : List Slot} → Calm m l → Calm (suc m) (x ∷ l)
  calm_packet : {l : List Slot} {number : Seq} {p : Packet} → Calm 0 l → Calm 0 (slot (Frame.Packet number p) ∷ l)
  calm_ack : {l : List Slot} {number : Seq} → Calm 0 l → Calm 0 (a_message (Message.Ack number) ∷ l)
  calm_update : {l : List Slot} {channel : ℕ} {c : Category} {x : Counts} → Calm 0 l → Calm 0 (a_message (Message.Update channel c x) ∷ l)
