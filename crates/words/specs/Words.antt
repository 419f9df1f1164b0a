-- Small structs as one number of 64 bits, a word, each field at a place of its own: what a word means, and the word of a struct.
-- What the fields of a word leave over has no meaning. Assumes nothing.
use Rattle.std.specs.Prelude.{ℕ, ◌+◌, ◌*◌, ◌/◌, ◌%◌, eqb, if◌then◌else◌}
use Rattle.counters.specs.declared.Counts.{Counts}
use Rattle.counters.specs.declared.Seq.{Seq}
use Rattle.counters.specs.Counters.{headers, datas, seq, counts}
use Rattle.packets.specs.declared.Category.{Category}
use Rattle.packets.specs.declared.Category.TheVariants.{Posted, NonPosted, Completion}
use Rattle.packets.specs.declared.Packet.{Packet}
use Rattle.packets.specs.Packets.{number_of}
use Rattle.frames.specs.declared.Frame.{Frame}
use Rattle.frames.specs.declared.Message.{Message}
use Rattle.credits.specs.declared.Credit.{Credit}
use Rattle.credits.specs.declared.Room.{Room}
use Rattle.credits.specs.Credits.{credit, room}
use Rattle.setup.specs.declared.Units.{Units}

-- ---- a number of eight bits

abbrev pub byte_in : ℕ → ℕ
byte_in w = w % 256

-- ---- units of a setup: header units, data units

abbrev pub units_in : ℕ → Units
units_in w = record { header = w % 65536; payload = w / 65536 % 65536 }

-- ---- a packet: kind, class, length, ident

abbrev pub packet_in : ℕ → Packet
packet_in w = record { kind = w % 256; class = w / 256 % 256; length = w / 65536 % 65536; ident = w / 4294967296 % 4294967296 }

abbrev pub packet_word : Packet → ℕ
packet_word p = p.kind + 256 * p.class + 65536 * p.length + 4294967296 * p.ident

-- ---- counts: header units, data units

abbrev pub counts_in : ℕ → Counts
counts_in w = counts (headers (w % 256)) (datas (w / 256 % 65536))

abbrev pub counts_word : Counts → ℕ
counts_word c = c.h.0 + 256 * c.d.0

-- ---- a credit: limit, consumed

abbrev pub credit_in : ℕ → Credit
credit_in w = credit (counts_in w) (counts_in (w / 16777216))

abbrev pub credit_word : Credit → ℕ
credit_word c = counts_word c.limit + 16777216 * counts_word c.consumed

-- ---- a room: allocated, received, the mark

abbrev pub room_in : ℕ → Room
room_in w = room (counts_in w) (counts_in (w / 16777216)) (eqb (w / 281474976710656 % 2) 1)

abbrev pub room_word : Room → ℕ
room_word r = counts_word r.allocated + 16777216 * counts_word r.received + (if r.marked then 281474976710656 else 0)

-- ---- a sequence number

abbrev pub seq_in : ℕ → Seq
seq_in w = seq (w % 65536)

-- ---- a frame is two words: the first has its kind in its last two bits, 0 packet, 1 Ack, 2 Nak, 3 update; the second is the packet, or 0

abbrev pub category_in : ℕ → Category
category_in n = if eqb n 0 then Posted else if eqb n 1 then NonPosted else Completion

abbrev pub message_in : ℕ → Message
message_in w =
    if eqb (w % 4) 1 then Message.Ack (seq_in (w / 4))
    else if eqb (w % 4) 2 then Message.Nak (seq_in (w / 4))
    else Message.Update (w / 4 % 256) (category_in (w / 1024 % 4)) (counts_in (w / 4096))

abbrev pub message_word : Message → ℕ
message_word (Message.Ack number) = 1 + 4 * number.0
message_word (Message.Nak number) = 2 + 4 * number.0
message_word (Message.Update channel c limits) = 3 + 4 * channel + 1024 * number_of c + 4096 * counts_word limits

abbrev pub frame_in : ℕ → ℕ → Frame
frame_in head rest = if eqb (head % 4) 0 then Frame.Packet (seq_in (head / 4)) (packet_in rest) else Frame.Message (message_in head)

abbrev pub head_word : Frame → ℕ
head_word (Frame.Packet number p) = 4 * number.0
head_word (Frame.Message m) = message_word m

abbrev pub rest_word : Frame → ℕ
rest_word (Frame.Packet number p) = packet_word p
rest_word (Frame.Message m) = 0
