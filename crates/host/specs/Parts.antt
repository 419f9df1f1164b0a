-- What a step of an end does to the part that it may change. The thin functions change just that part in place; that this is the step of the
-- whole end is proved in proofs/Steps, proofs/Submits and proofs/Takes. No promise cites these: what holds the code are the functions' own
-- promises. Arrive and Send may change the whole end, and Refresh the receiving half. Assumes nothing.
use Rattle.std.specs.Prelude.{ℕ, leb, ltb, eqb, length, if◌then◌else◌, Some, None, Option}
use Rattle.basics.specs.Choice.{first_of}
use Rattle.basics.specs.Lists.{find}
use Rattle.packets.specs.declared.Packet.{Packet}
use Rattle.packets.specs.declared.Category.{Category}
use Rattle.packets.specs.declared.Category.TheVariants.{Posted}
use Rattle.packets.specs.Packets.{number_of, numbered, slot_of, category_of, packet_answer, data_units, need_of}
use Rattle.frames.specs.declared.Frame.{Frame}
use Rattle.store.specs.declared.Packets.{Packets}
use Rattle.store.specs.Store.{empty, held, at, is_of, of_category, pushed, removed}
use Rattle.setup.specs.declared.Setup.{Setup}
use Rattle.setup.specs.Setup.{channels, channel_of, units_at}
use Rattle.credits.specs.declared.Room.{Room}
use Rattle.credits.specs.Credits.{given_back}
use Rattle.sender.specs.declared.Replay.{Replay}
use Rattle.sender.specs.Sender.{begun}
use Rattle.receiver.specs.declared.Reply.{Reply}
use Rattle.receiver.specs.Receiver.{after_gap}
use Rattle.delivery.specs.Delivery.{is_before}
use Rattle.host.specs.Host.{Said, said}

-- ---- Timer, at the replay

pub record Timed : Type 0 where
  pub answer : ℕ
  pub replay : Replay

-- 23: nothing unacknowledged
abbrev pub timer_on : ℕ → Replay → Timed
timer_on unacknowledged r =
    if eqb unacknowledged 0 then record { answer = 23; replay = r } else record { answer = 0; replay = begun r }

-- ---- a damaged frame, at what is owed

pub record Damaged : Type 0 where
  pub said : Said
  pub reply : Reply

abbrev pub reply_after : Reply → Frame → Reply
reply_after r (Frame.Packet number p) = after_gap r
reply_after r (Frame.Message m) = r

abbrev pub damage_on : Reply → Frame → Damaged
damage_on r f = record { said = said 0 4; reply = reply_after r f }

-- ---- Submit, at the queue of the packet's channel

-- the queue afterwards, with the answer
pub record Queued : Type 0 where
  pub answer : ℕ
  pub queue : Packets

-- 15: needs more data units than the other end's setup gives (1 is the other end)
abbrev pub too_much : Setup → Packet → ℕ
too_much link p = if ltb (units_at link 1 (channel_of link p.class) (number_of (category_of p))).payload (data_units p) then 15 else 0

-- 16: queue full: 8 of its category wait
abbrev pub too_many : Packets → Packet → ℕ
too_many q p = if leb 8 (length (of_category (category_of p) (held q))) then 16 else 0

-- 12 to 14, then 15, then 16
unfoldable pub join_answer : Setup → Packets → Packet → ℕ
join_answer link q p = first_of (packet_answer p) (first_of (too_much link p) (too_many q p))

-- the place of the queue; 0 where the channel is none of the four
unfoldable pub queue_for : Setup → Packet → ℕ
queue_for link p = if ltb (channel_of link p.class) channels then channel_of link p.class else 0

-- on a channel that is none of the four nothing waits, and none joins
unfoldable pub joined : Setup → Packets → Packet → Queued
joined link q p =
    if leb channels (channel_of link p.class) then record { answer = join_answer link empty p; queue = q }
    else if eqb (join_answer link q p) 0 then record { answer = 0; queue = pushed q p }
    else record { answer = join_answer link q p; queue = q }

-- ---- Take, at the inbox of the channel and the room of the category

-- the places of the inbox and of the room, and the category; where it is refused with 20 both are 0, and nothing is asked for
pub record Asked : Type 0 where
  pub inbox : ℕ
  pub room : ℕ
  pub what : Option Category

-- the inbox and the room afterwards, with what is said
pub record Handed : Type 0 where
  pub said : Said
  pub inbox : Packets
  pub room : Room

-- 20: no such place
abbrev pub nowhere : Asked
nowhere = record { inbox = 0; room = 0; what = None }

abbrev pub asked_by : ℕ → Option Category → Asked
asked_by channel (Some c) = record { inbox = channel; room = slot_of channel c; what = Some c }
asked_by channel None = nowhere

unfoldable pub asked_of : ℕ → ℕ → ℕ → Asked
asked_of n channel category =
    if leb n channel then nowhere
    else if leb channels channel then nowhere
    else asked_by channel (numbered category)

abbrev pub keeps : ℕ → Packets → Room → Handed
keeps answer inbox room = record { said = record { answer = answer; detail = 0 }; inbox = inbox; room = room }

-- 21: none waiting; 22: a posted packet that arrived earlier waits
unfoldable pub handed_at : Packets → Room → Option ℕ → Handed
handed_at inbox room None = keeps 21 inbox room
handed_at inbox room (Some place) =
    if is_before (find (is_of Posted) (held inbox) 0) place then keeps 22 inbox room
    else record {
      said = record { answer = 0; detail = (at inbox place).ident };
      inbox = removed inbox place;
      room = given_back room (need_of (at inbox place));
    }

abbrev pub handed_of : Category → Packets → Room → Handed
handed_of c inbox room = handed_at inbox room (find (is_of c) (held inbox) 0)

abbrev pub handed_by : Option Category → Packets → Room → Handed
handed_by (Some c) inbox room = handed_of c inbox room
handed_by None inbox room = keeps 20 inbox room

unfoldable pub handed_out : Asked → Packets → Room → Handed
handed_out a inbox room = handed_by a.what inbox room
