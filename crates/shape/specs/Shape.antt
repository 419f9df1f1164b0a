-- The shape of an end's state: a step on a state that is out of shape answers 10. Document 01's list, in its order.
-- The rules go over all channels, also over those that are not in use. Each heading quotes the fault; the definition under it
-- says that it is not there. Lines stand in pairs/Steps. Assumes nothing.
use Rattle.std.specs.Prelude.{ℕ, ◌+◌, ◌*◌, Bool, true, ◌&&◌, ◌||◌, not, List, leb, ltb, eqb, length, Some, None, Option}
use Rattle.basics.specs.Lists.{all}
use Rattle.basics.specs.Each.{each}
use Rattle.counters.specs.declared.Counts.{Counts}
use Rattle.counters.specs.Counters.{data_range, next_of, after_of}
use Rattle.credits.specs.declared.Credit.{Credit}
use Rattle.credits.specs.declared.Room.{Room}
use Rattle.credits.specs.Credits.{free_of}
use Rattle.packets.specs.declared.Packet.{Packet}
use Rattle.packets.specs.declared.Category.{Category}
use Rattle.packets.specs.declared.Category.TheVariants.{Posted, NonPosted, Completion}
use Rattle.packets.specs.Packets.{number_of, packet_answer, data_together, slot_of}
use Rattle.frames.specs.Frames.{number_in_range}
use Rattle.store.specs.declared.Packets.{Packets}
use Rattle.store.specs.Store.{capacity, held, of_category}
use Rattle.setup.specs.declared.Setup.{Setup}
use Rattle.setup.specs.declared.Units.{Units}
use Rattle.setup.specs.Setup.{channels, per_end, in_range, channel_of, units_at}
use Rattle.sender.specs.declared.Sender.{Sender}
use Rattle.sender.specs.Sender.{queue_at, credit_at}
use Rattle.sender.specs.Sources.{buffer_bound}
use Rattle.receiver.specs.declared.Receiver.{Receiver}
use Rattle.receiver.specs.Receiver.{inbox_at, room_at}
use Rattle.ends.specs.declared.End.{End}

-- what holds of P, NP and C
abbrev pub of_each : (Category → Bool) → Bool
of_each ok = ok Posted && (ok NonPosted && ok Completion)

-- ---- a queue, buffer or line is over its bound

-- at most 8 of each category, and no length past the 48 places
unfoldable pub queue_bound : Packets → Bool
queue_bound q = leb q.len capacity && of_each (λ c. leb (length (of_category c (held q))) 8)

-- its bound in units is the last rule; here its 48 places
abbrev pub inbox_bound : Packets → Bool
inbox_bound q = leb q.len capacity

unfoldable pub within_bounds : Sender → Receiver → Bool
within_bounds s r =
    each channels (λ channel. queue_bound (queue_at s channel))
    && (leb s.buffer.len buffer_bound
    && each channels (λ channel. inbox_bound (inbox_at r channel)))

-- ---- a packet lies outside the queue or buffer of its channel and category: a list holds all categories of its channel

abbrev pub is_on : Setup → ℕ → Packet → Bool
is_on link channel p = eqb (channel_of link p.class) channel

abbrev pub all_on : Setup → ℕ → Packets → Bool
all_on link channel q = all (is_on link channel) (held q)

unfoldable pub in_place : Setup → Sender → Receiver → Bool
in_place link s r =
    each channels (λ channel. all_on link channel (queue_at s channel))
    && each channels (λ channel. all_on link channel (inbox_at r channel))

-- ---- 27 would refuse a stored frame

abbrev pub well_formed : Packet → Bool
well_formed p = eqb (packet_answer p) 0

abbrev pub all_formed : Packets → Bool
all_formed q = all well_formed (held q)

unfoldable pub frames_fit : Sender → Receiver → Bool
frames_fit s r =
    each channels (λ channel. all_formed (queue_at s channel))
    && (all_formed s.buffer
    && each channels (λ channel. all_formed (inbox_at r channel)))

-- ---- a stored number leaves its range; the types keep header counts to 255 and the retrain count to 65,535

abbrev pub counts_fit : Counts → Bool
counts_fit c = ltb c.d.0 data_range

abbrev pub credit_fits : Credit → Bool
credit_fits c = counts_fit c.limit && counts_fit c.consumed

abbrev pub room_fits : Room → Bool
room_fits r = counts_fit r.allocated && counts_fit r.received

unfoldable pub sent_fit : Sender → Bool
sent_fit s =
    each per_end (λ slot. credit_fits (credit_at s slot))
    && (number_in_range s.next
    && (number_in_range s.acked
    && leb s.replay.count 3))

unfoldable pub received_fit : Receiver → Bool
received_fit r = each per_end (λ slot. room_fits (room_at r slot)) && number_in_range r.reply.next_receive

unfoldable pub numbers_fit : Sender → Receiver → Bool
numbers_fit s r = sent_fit s && received_fit r

-- ---- the replay buffer's numbers don't run from the last acknowledged + 1 to the next to be given − 1

unfoldable pub numbers_run : Sender → Bool
numbers_run s = eqb (after_of (next_of s.acked) s.buffer.len).0 s.next.0

-- ---- a running replay's next packet isn't in that buffer

abbrev pub place_in : Option ℕ → ℕ → Bool
place_in (Some i) len = ltb i len
place_in None len = true

unfoldable pub replay_in : Sender → Bool
replay_in s = place_in s.replay.at s.buffer.len

-- ---- a mark stands on an unused channel: the slots of the n channels in use are those below 3 · n

abbrev pub mark_in_use : ℕ → ℕ → Room → Bool
mark_in_use n slot r = not r.marked || ltb slot (3 * n)

unfoldable pub marks_in_use : ℕ → Receiver → Bool
marks_in_use n r = each per_end (λ slot. mark_in_use n slot (room_at r slot))

-- ---- free room (allocated − received) and the units waiting don't add up to the setup's units

-- each waiting packet is one header unit
unfoldable pub adds_up : Room → List Packet → Units → Bool
adds_up r waiting u = eqb ((free_of r).h.0 + length waiting) u.header && eqb ((free_of r).d.0 + data_together waiting) u.payload

-- of its own units, which stand first in the setup
unfoldable pub category_adds_up : Setup → Receiver → ℕ → Category → Bool
category_adds_up link r channel c =
    adds_up (room_at r (slot_of channel c)) (of_category c (held (inbox_at r channel))) (units_at link 0 channel (number_of c))

abbrev pub channel_adds_up : Setup → Receiver → ℕ → Bool
channel_adds_up link r channel = of_each (λ c. category_adds_up link r channel c)

unfoldable pub room_adds_up : Setup → Receiver → Bool
room_adds_up link r = each channels (λ channel. channel_adds_up link r channel)

-- ---- the state is in shape

unfoldable pub in_shape : End → Bool
in_shape e =
    in_range e.setup  -- else 5 would refuse its setup
    && (within_bounds e.sender e.receiver
    && (in_place e.setup e.sender e.receiver
    && (frames_fit e.sender e.receiver
    && (numbers_fit e.sender e.receiver
    && (numbers_run e.sender
    && (replay_in e.sender
    && (marks_in_use e.setup.n e.receiver
    && room_adds_up e.setup e.receiver)))))))
