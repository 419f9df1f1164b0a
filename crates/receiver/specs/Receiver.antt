-- The receiving half of an end: its state, the start, what it owes, its marked updates and Refresh.
-- Assumes nothing.
use Rattle.std.specs.Prelude.{ℕ, ◌*◌, ◌/◌, ◌%◌, Bool, true, false, List, ◌++◌, map, ltb, eqb, set, get_or, take, drop, replicate, if◌then◌else◌, Option, Some, None}
use Rattle.basics.specs.Lists.{find}
use Rattle.counters.specs.declared.Seq.{Seq}
use Rattle.counters.specs.Counters.{seq, next_of, before_of}
use Rattle.credits.specs.declared.Room.{Room}
use Rattle.credits.specs.Credits.{none, advertised, room_of, marked, unmarked}
use Rattle.packets.specs.declared.Category.{Category}
use Rattle.packets.specs.declared.Category.TheVariants.{Posted, NonPosted, Completion}
use Rattle.frames.specs.declared.Frame.{Frame}
use Rattle.frames.specs.declared.Message.TheVariants as Message
use Rattle.store.specs.declared.Packets.{Packets}
use Rattle.store.specs.Store.{empty}
use Rattle.setup.specs.declared.Setup.{Setup}
use Rattle.setup.specs.declared.Units.{Units}
use Rattle.setup.specs.Setup.{channels, per_end}
use Rattle.receiver.specs.declared.Owed.{Owed}
use Rattle.receiver.specs.declared.Reply.{Reply}
use Rattle.receiver.specs.declared.Receiver.{Receiver}

abbrev pub reply : Seq → Bool → Owed → Reply
reply next sent owed = record { next_receive = next; nak_sent = sent; owed = owed }

abbrev pub receiver : List Packets → List Room → Reply → Receiver
receiver inboxes rooms r = record { inboxes = inboxes; rooms = rooms; reply = r }

-- ---- the start: received from 0, allocated from its own setup; nothing owed

abbrev pub room_for : Units → Room
room_for u = room_of (advertised u.header u.payload)

unfoldable pub start_of : Setup → Receiver
start_of link = receiver (replicate channels empty) (map room_for (take per_end link.units)) (reply (seq 0) false Owed.Nothing)

-- ---- its parts: a channel's receive buffer, a category's room

abbrev pub inbox_at : Receiver → ℕ → Packets
inbox_at r channel = get_or r.inboxes channel empty

abbrev pub room_at : Receiver → ℕ → Room
room_at r slot = get_or r.rooms slot (room_of none)

abbrev pub with_reply : Receiver → Reply → Receiver
with_reply r x = receiver r.inboxes r.rooms x

abbrev pub with_room : Receiver → ℕ → Room → Receiver
with_room r slot m = receiver r.inboxes (set r.rooms slot m) r.reply

-- ---- what it has for the line: an owed Nak, an owed Ack; they carry next-receive − 1 and clear what is owed

abbrev pub nak_by : Owed → Seq → Option Frame
nak_by Owed.Nak next = Some (Frame.Message (Message.Nak (before_of next)))
nak_by Owed.Ack next = None
nak_by Owed.Nothing next = None

abbrev pub nak_of : Reply → Option Frame
nak_of x = nak_by x.owed x.next_receive

abbrev pub ack_by : Owed → Seq → Option Frame
ack_by Owed.Ack next = Some (Frame.Message (Message.Ack (before_of next)))
ack_by Owed.Nak next = None
ack_by Owed.Nothing next = None

abbrev pub ack_of : Reply → Option Frame
ack_of x = ack_by x.owed x.next_receive

unfoldable pub cleared : Receiver → Receiver
cleared r = with_reply r (reply r.reply.next_receive r.reply.nak_sent Owed.Nothing)

-- ---- what becomes owed

-- accepted: next-receive + 1, the nak-sent flag clears, an Ack becomes owed in place of anything owed
abbrev pub after_accepted : Reply → Reply
after_accepted x = reply (next_of x.next_receive) false Owed.Ack

-- a duplicate: an Ack owed unless a Nak is
abbrev pub ack_unless_nak : Owed → Owed
ack_unless_nak Owed.Nothing = Owed.Ack
ack_unless_nak Owed.Ack = Owed.Ack
ack_unless_nak Owed.Nak = Owed.Nak

abbrev pub after_duplicate : Reply → Reply
after_duplicate x = reply x.next_receive x.nak_sent (ack_unless_nak x.owed)

-- out of order, and damaged packets alike: if the flag is clear it is set and a Nak becomes owed in place of anything owed
abbrev pub after_gap : Reply → Reply
after_gap x = if x.nak_sent then x else reply x.next_receive true Owed.Nak

-- ---- a marked credit update: lowest channel, then P, NP, C

abbrev pub is_marked : Room → Bool
is_marked m = m.marked

abbrev pub first_marked : Receiver → Option ℕ
first_marked r = find is_marked r.rooms 0

-- the channel and the category of a slot 3 · channel + category
abbrev pub channel_in : ℕ → ℕ
channel_in slot = if ltb slot per_end then slot / 3 else 0

abbrev pub category_in : ℕ → Category
category_in slot = if eqb (slot % 3) 0 then Posted else if eqb (slot % 3) 1 then NonPosted else Completion

-- an update carries both allocated counts and clears its mark
unfoldable pub update_frame : Receiver → ℕ → Frame
update_frame r slot = Frame.Message (Message.Update (channel_in slot) (category_in slot) (room_at r slot).allocated)

unfoldable pub told : Receiver → ℕ → Receiver
told r slot = with_room r slot (unmarked (room_at r slot))

-- ---- Refresh: marks all updates of channels in use

unfoldable pub refreshed : Receiver → ℕ → Receiver
refreshed r n = receiver r.inboxes (map marked (take (3 * n) r.rooms) ++ drop (3 * n) r.rooms) r.reply
