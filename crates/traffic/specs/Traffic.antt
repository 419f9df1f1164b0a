-- The frames of one direction on the line forth and on the line back, in true numbers. The frames of the other direction are passed over.
-- Assumes nothing.
use Rattle.std.specs.Prelude.{ℕ, suc, ◌+◌, ◌%◌, ◌≤◌, ◌<◌, max, List, [], ◌∷◌, eqb, length, get_or, if◌then◌else◌}
use Rattle.counters.specs.declared.Counts.{Counts}
use Rattle.counters.specs.declared.Seq.{Seq}
use Rattle.counters.specs.Counters.{seq}
use Rattle.packets.specs.declared.Packet.{Packet}
use Rattle.packets.specs.declared.Category.{Category}
use Rattle.packets.specs.Packets.{slot_of}
use Rattle.frames.specs.declared.Frame.{Frame}
use Rattle.frames.specs.declared.Frame.TheVariants as Frame
use Rattle.frames.specs.declared.Message.{Message}
use Rattle.frames.specs.declared.Message.TheVariants as Message
use Rattle.store.specs.Store.{no_packet}
use Rattle.line.specs.declared.Slot.{Slot}
use Rattle.line.specs.Line.{slot}
use Rattle.amounts.specs.Amounts.{Amount, Fits, wrapped}

abbrev pub a_packet : List Packet → ℕ → Slot
a_packet sent t = slot (Frame.Packet (seq (t % 4096)) (get_or sent t no_packet))

abbrev pub a_message : Message → Slot
a_message m = slot (Frame.Message m)

-- each packet is the one sent as number t, and lies at most 16 behind b: behind what is received and what is before it on the line
pub data Forth (sent : List Packet) : ℕ → List Slot → Type 0 where
  forth_end : {b : ℕ} → Forth sent b []
  forth_packet : {b : ℕ} {l : List Slot} (t : ℕ) → t < length sent → b ≤ t + 16 → Forth sent (max b (suc t)) l → Forth sent b (a_packet sent t ∷ l)
  forth_message : {b : ℕ} {l : List Slot} (m : Message) → Forth sent b l → Forth sent b (a_message m ∷ l)

-- the number of the packet before the v-th: what an Ack or Nak carries where v packets are received
abbrev pub up_to : ℕ → ℕ
up_to v = (v + 4095) % 4096

-- Acks and Naks: the counts go up along the line, from what is acknowledged to what is received
pub data Acks : ℕ → ℕ → List Slot → Type 0 where
  acks_end : {a r : ℕ} → a ≤ r → Acks a r []
  acks_ack : {a r : ℕ} {l : List Slot} (v : ℕ) → a ≤ v → Acks v r l → Acks a r (a_message (Message.Ack (seq (up_to v))) ∷ l)
  acks_nak : {a r : ℕ} {l : List Slot} (v : ℕ) → a ≤ v → Acks v r l → Acks a r (a_message (Message.Nak (seq (up_to v))) ∷ l)
  acks_update : {a r : ℕ} {l : List Slot} {channel : ℕ} {c : Category} {x : Counts} → Acks a r l → Acks a r (a_message (Message.Update channel c x) ∷ l)
  acks_packet : {a r : ℕ} {l : List Slot} {number : Seq} {p : Packet} → Acks a r l → Acks a r (slot (Frame.Packet number p) ∷ l)

-- an amount by slot, with another at one slot
abbrev pub put : (ℕ → Amount) → ℕ → Amount → ℕ → Amount
put f k x j = if eqb j k then x else f j

-- updates: by slot the amounts go up along the line, from the limit stored to what is allocated; each is of a channel in use
pub data Updates (n : ℕ) : (ℕ → Amount) → (ℕ → Amount) → List Slot → Type 0 where
  updates_end : {lo hi : ℕ → Amount} → ((j : ℕ) → Fits (lo j) (hi j)) → Updates n lo hi []
  updates_update : {lo hi : ℕ → Amount} {l : List Slot} (channel : ℕ) (c : Category) (x : Amount) → channel < n
      → Fits (lo (slot_of channel c)) x → Fits x (hi (slot_of channel c)) → Updates n (put lo (slot_of channel c) x) hi l
      → Updates n lo hi (a_message (Message.Update channel c (wrapped x)) ∷ l)
  updates_ack : {lo hi : ℕ → Amount} {l : List Slot} {number : Seq} → Updates n lo hi l → Updates n lo hi (a_message (Message.Ack number) ∷ l)
  updates_nak : {lo hi : ℕ → Amount} {l : List Slot} {number : Seq} → Updates n lo hi l → Updates n lo hi (a_message (Message.Nak number) ∷ l)
  updates_packet : {lo hi : ℕ → Amount} {l : List Slot} {number : Seq} {p : Packet} → Updates n lo hi l
      → Updates n lo hi (slot (Frame.Packet number p) ∷ l)
