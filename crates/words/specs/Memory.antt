-- A pair in memory that is lent as words: where each part of it stands, and what the words mean. The setups of the two ends never change
-- and are kept beside it. Assumes nothing: words that are missing count as 0.
use Rattle.std.specs.Prelude.{ℕ, ◌+◌, ◌*◌, ◌%◌, not, List, [], ◌∷◌, map, eqb, take, get_or, if◌then◌else◌, Some, None, Option}
use Rattle.basics.specs.Parts.{part, cut}
use Rattle.counters.specs.Counters.{retrains}
use Rattle.store.specs.declared.Packets.{Packets}
use Rattle.store.specs.Store.{packets}
use Rattle.line.specs.declared.Line.{Line}
use Rattle.line.specs.declared.Slot.{Slot}
use Rattle.line.specs.Line.{line, slot}
use Rattle.setup.specs.declared.Setup.{Setup}
use Rattle.setup.specs.Setup.{channels, per_end, blank_setup}
use Rattle.sender.specs.declared.Replay.{Replay}
use Rattle.sender.specs.declared.Sender.{Sender}
use Rattle.sender.specs.Sender.{replay, sender}
use Rattle.receiver.specs.declared.Owed.{Owed}
use Rattle.receiver.specs.declared.Reply.{Reply}
use Rattle.receiver.specs.declared.Receiver.{Receiver}
use Rattle.receiver.specs.Receiver.{reply, receiver}
use Rattle.ends.specs.declared.End.{End}
use Rattle.ends.specs.Ends.{end}
use Rattle.pairs.specs.declared.Pair.{Pair}
use Rattle.pairs.specs.Pairs.{pair}
use Rattle.words.specs.Words.{packet_in, credit_in, room_in, seq_in, frame_in}

-- ---- a list of packets: a word for each place, then how many it holds

abbrev pub places : ℕ
places = 48

abbrev pub list_words : ℕ
list_words = 49

abbrev pub packets_in : List ℕ → Packets
packets_in q = packets (map packet_in (take places q)) (get_or q places 0)

-- one list for each channel
abbrev pub lists_in : List ℕ → List Packets
lists_in m = map packets_in (cut list_words channels m)

-- ---- the sending half: the queues, the replay buffer, the credits, the two numbers, the running replay

abbrev pub buffer_at : ℕ
buffer_at = 196

abbrev pub credits_at : ℕ
credits_at = 245

abbrev pub next_at : ℕ
next_at = 257

abbrev pub acked_at : ℕ
acked_at = 258

-- whether a replay runs, where, how many starts are counted, how often the link was trained again
abbrev pub replay_at : ℕ
replay_at = 259

abbrev pub sender_words : ℕ
sender_words = 263

abbrev pub found_in : ℕ → ℕ → Option ℕ
found_in runs place = if eqb runs 0 then None else Some place

-- of its four words
abbrev pub replay_in : List ℕ → Replay
replay_in x = replay (found_in (get_or x 0 0) (get_or x 1 0)) (get_or x 2 0 % 256) (retrains (get_or x 3 0 % 65536))

unfoldable pub sender_in : List ℕ → Sender
sender_in s =
    sender (lists_in s) (map credit_in (part s credits_at per_end)) (packets_in (part s buffer_at list_words)) (seq_in (get_or s next_at 0)) (seq_in (get_or s acked_at 0))
    (replay_in (part s replay_at 4))

-- ---- the receiving half: the receive buffers, the rooms, the reply

abbrev pub rooms_at : ℕ
rooms_at = 196

-- next-receive, the nak-sent flag, what is owed
abbrev pub reply_at : ℕ
reply_at = 208

abbrev pub receiver_words : ℕ
receiver_words = 211

abbrev pub owed_in : ℕ → Owed
owed_in n = if eqb n 0 then Owed.Nothing else if eqb n 1 then Owed.Ack else Owed.Nak

-- of its three words
abbrev pub reply_in : List ℕ → Reply
reply_in x = reply (seq_in (get_or x 0 0)) (not (eqb (get_or x 1 0) 0)) (owed_in (get_or x 2 0))

unfoldable pub receiver_in : List ℕ → Receiver
receiver_in r = receiver (lists_in r) (map room_in (part r rooms_at per_end)) (reply_in (part r reply_at 3))

-- ---- a line: two words for each frame, then how many are on it

abbrev pub line_places : ℕ
line_places = 16

abbrev pub line_words : ℕ
line_words = 33

abbrev pub slot_in : List ℕ → Slot
slot_in x = slot (frame_in (get_or x 0 0) (get_or x 1 0))

unfoldable pub line_in : List ℕ → Line
line_in l = line (map slot_in (cut 2 line_places l)) (get_or l (2 * line_places) 0)

-- ---- the pair: end 0, end 1, each its sending half and then its receiving half; line 0, line 1

abbrev pub end_words : ℕ
end_words = 474

abbrev pub lines_at : ℕ
lines_at = 948

abbrev pub pair_words : ℕ
pair_words = 1014

-- the two halves of an end's words
abbrev pub sending_in : List ℕ → Sender
sending_in m = sender_in (part m 0 sender_words)

abbrev pub receiving_in : List ℕ → Receiver
receiving_in m = receiver_in (part m sender_words receiver_words)

unfoldable pub end_in : Setup → List ℕ → End
end_in link m = end link (sending_in m) (receiving_in m)

-- with the setups of end 0 and end 1, each as its end sees it
unfoldable pub pair_in : List Setup → List ℕ → Pair
pair_in links m =
    pair (end_in (get_or links 0 blank_setup) (part m 0 end_words) ∷ end_in (get_or links 1 blank_setup) (part m end_words end_words) ∷ [])
    (line_in (part m lines_at line_words) ∷ line_in (part m (lines_at + line_words) line_words) ∷ [])
