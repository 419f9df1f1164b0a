-- Where Send's frame comes from, what it is, and what it leaves: the same as `send_of`, source by source (proofs/SourceLaws).
-- Assumes nothing.
use Rattle.std.specs.Prelude.{ℕ, Option, Some, None}
use Rattle.counters.specs.Counters.{before_of}
use Rattle.frames.specs.declared.Frame.{Frame}
use Rattle.frames.specs.declared.Message.TheVariants as Message
use Rattle.sender.specs.declared.Sender.{Sender}
use Rattle.sender.specs.Sources.{replay_frame, replayed, new_of, new_frame, sent_new}
use Rattle.receiver.specs.declared.Owed.{Owed}
use Rattle.receiver.specs.declared.Receiver.{Receiver}
use Rattle.receiver.specs.Receiver.{cleared, first_marked, update_frame, told}
use Rattle.memory.specs.declared.Source.{Source}

abbrev pub by_slot : Option ℕ → Option Source → Option Source
by_slot (Some i) later = Some (Source.Update i)
by_slot None later = later

abbrev pub by_place : Option ℕ → Option Source → Option Source
by_place (Some i) later = Some (Source.Replay i)
by_place None later = later

abbrev pub by_new : Option (ℕ × ℕ) → Option Source
by_new (Some (channel, place)) = Some (Source.New channel place)
by_new None = None

abbrev pub by_owed : Owed → Option Source → Option Source
by_owed Owed.Nak later = Some Source.Nak
by_owed Owed.Ack later = Some Source.Ack
by_owed Owed.Nothing later = later

-- an owed Nak; an owed Ack; a marked credit update; the next replay packet if a replay runs; a new packet
unfoldable pub source_of : Sender → Receiver → Option Source
source_of s r = by_owed r.reply.owed (by_slot (first_marked r) (by_place s.replay.at (by_new (new_of s))))

-- its frame
abbrev pub frame_from : Sender → Receiver → Source → Frame
frame_from s r Source.Nak = Frame.Message (Message.Nak (before_of r.reply.next_receive))
frame_from s r Source.Ack = Frame.Message (Message.Ack (before_of r.reply.next_receive))
frame_from s r (Source.Update i) = update_frame r i
frame_from s r (Source.Replay i) = replay_frame s i
frame_from s r (Source.New channel place) = new_frame s channel place

-- the halves after it
abbrev pub sender_after : Sender → Source → Sender
sender_after s Source.Nak = s
sender_after s Source.Ack = s
sender_after s (Source.Update i) = s
sender_after s (Source.Replay i) = replayed s i
sender_after s (Source.New channel place) = sent_new s channel place

abbrev pub receiver_after : Receiver → Source → Receiver
receiver_after r Source.Nak = cleared r
receiver_after r Source.Ack = cleared r
receiver_after r (Source.Update i) = told r i
receiver_after r (Source.Replay i) = r
receiver_after r (Source.New channel place) = r

abbrev pub detail_from : Source → ℕ
detail_from Source.Nak = 1
detail_from Source.Ack = 2
detail_from (Source.Update i) = 3
detail_from (Source.Replay i) = 4
detail_from (Source.New channel place) = 5
