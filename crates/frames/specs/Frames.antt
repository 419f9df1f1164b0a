-- Frames: a packet with its number, or a link message: Ack, Nak or update. The range rule of answer 27.
-- Assumes nothing.
use Rattle.std.specs.Prelude.{ℕ, Bool, ◌&&◌, ltb, eqb, if◌then◌else◌, Some, None, Option, Result, Ok, Err}
use Rattle.counters.specs.declared.Seq.{Seq}
use Rattle.counters.specs.declared.Counts.{Counts}
use Rattle.counters.specs.Counters.{header_range, data_range, seq_range, headers, datas, counts}
use Rattle.packets.specs.declared.Packet.{Packet}
use Rattle.packets.specs.declared.Category.{Category}
use Rattle.packets.specs.Packets.{packet_answer}
use Rattle.frames.specs.declared.Message.{Message}
use Rattle.frames.specs.declared.Frame.{Frame}
use Rattle.answers.specs.declared.Refusal.{Refusal}

-- a number not over 4,095
abbrev pub number_in_range : Seq → Bool
number_in_range number = ltb number.0 seq_range

-- the packet rules 12 to 14 refuse nothing
abbrev pub packet_in_range : Seq → Packet → Bool
packet_in_range number p = number_in_range number && eqb (packet_answer p) 0

-- a channel below n, a data count not over 4,095; its type keeps the header count to 255 and the category to 2
abbrev pub update_in_range : ℕ → ℕ → Counts → Bool
update_in_range n channel c = ltb channel n && ltb c.d.0 data_range

-- every field of a frame is in range, where n channels are in use
unfoldable pub in_range : ℕ → Frame → Bool
in_range n (Frame.Packet number p) = packet_in_range number p
in_range n (Frame.Message (Message.Ack number)) = number_in_range number
in_range n (Frame.Message (Message.Nak number)) = number_in_range number
in_range n (Frame.Message (Message.Update channel category c)) = update_in_range n channel c

-- 27: a field is out of range
abbrev pub frame_answer : ℕ → Frame → ℕ
frame_answer n f = if in_range n f then 0 else 27

-- ---- an update whose fields come as numbers, from outside

abbrev pub update_frame : ℕ → Category → ℕ → ℕ → Frame
update_frame channel category header units = Frame.Message (Message.Update channel category (counts (headers header) (datas units)))

-- a header count not over 255, then the rule of the frame itself
abbrev pub update_of : ℕ → ℕ → Option Category → ℕ → ℕ → Result Frame Refusal
update_of n channel (Some category) header units =
    if ltb header header_range && in_range n (update_frame channel category header units)
    then Ok (update_frame channel category header units)
    else Err Refusal.Field
update_of n channel None header units = Err Refusal.Field
