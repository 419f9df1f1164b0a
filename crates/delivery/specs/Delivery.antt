-- What a packet does at the receiving half when it arrives whole or damaged, and Take.
-- Assumes nothing.
use Rattle.std.specs.Prelude.{ℕ, Bool, false, not, leb, ltb, eqb, set, if◌then◌else◌, Some, None, Option, Result, Ok, Err}
use Rattle.basics.specs.Lists.{find}
use Rattle.counters.specs.declared.Seq.{Seq}
use Rattle.counters.specs.declared.Order.{Order}
use Rattle.counters.specs.Counters.{order_of}
use Rattle.credits.specs.Credits.{room_answer, received, given_back}
use Rattle.packets.specs.declared.Packet.{Packet}
use Rattle.packets.specs.declared.Category.{Category}
use Rattle.packets.specs.declared.Category.TheVariants.{Posted}
use Rattle.packets.specs.Packets.{numbered, category_of, need_of, slot_of}
use Rattle.store.specs.Store.{held, at, pushed, removed, is_of}
use Rattle.setup.specs.Setup.{channels}
use Rattle.receiver.specs.declared.Receiver.{Receiver}
use Rattle.answers.specs.declared.Refusal.{Refusal}
use Rattle.answers.specs.declared.After.{After}
use Rattle.answers.specs.Answers.{number_of}
use Rattle.receiver.specs.Receiver.{receiver, inbox_at, room_at, with_reply, after_accepted, after_duplicate, after_gap}

-- the half after it got a packet or gave one, with answer and detail
pub record Got : Type 0 where
  pub receiver : Receiver
  pub answer : ℕ
  pub detail : ℕ

abbrev pub got : Receiver → ℕ → ℕ → Got
got r answer detail = record { receiver = r; answer = answer; detail = detail }

-- a refusal leaves it as it was, with detail 0
abbrev pub got_of : Receiver → Result (After Receiver) Refusal → Got
got_of r (Ok x) = got x.state 0 x.detail
got_of r (Err refusal) = got r (number_of refusal) 0

-- the same of a half that is changed in place, where what is given is the detail
abbrev pub got_by : Receiver → Result ℕ Refusal → Got
got_by r (Ok detail) = got r 0 detail
got_by r (Err refusal) = got r (number_of refusal) 0

-- ---- a packet that arrives whole, on this channel

-- accepted, stored, received counts grow
unfoldable pub stored : Receiver → ℕ → Packet → Receiver
stored r channel p =
    receiver
    (set r.inboxes channel (pushed (inbox_at r channel) p))
    (set r.rooms (slot_of channel (category_of p)) (received (room_at r (slot_of channel (category_of p))) (need_of p)))
    (after_accepted r.reply)

-- 26: over the free header or data room; also where there is no such channel
unfoldable pub in_sequence : Receiver → ℕ → Packet → Got
in_sequence r channel p =
    if leb channels channel then got r 26 0
    else if not (eqb (room_answer (room_at r (slot_of channel (category_of p))) (need_of p)) 0) then got r 26 0
    else got (stored r channel p) 0 1

-- accepted, duplicate or out of order; the last two are dropped
abbrev pub by_order : Receiver → ℕ → Packet → Order → Got
by_order r channel p Order.Next = in_sequence r channel p
by_order r channel p Order.Duplicate = got (with_reply r (after_duplicate r.reply)) 0 2
by_order r channel p Order.OutOfOrder = got (with_reply r (after_gap r.reply)) 0 3

unfoldable pub arrives : Receiver → ℕ → Seq → Packet → Got
arrives r channel number p = by_order r channel p (order_of r.reply.next_receive number)

-- ---- a packet that arrives damaged

unfoldable pub damaged : Receiver → Receiver
damaged r = with_reply r (after_gap r.reply)

-- ---- Take: hands out the oldest such packet, adds its units to allocated and marks that update

unfoldable pub handed_out : Receiver → ℕ → Category → ℕ → Receiver
handed_out r channel c place =
    receiver
    (set r.inboxes channel (removed (inbox_at r channel) place))
    (set r.rooms (slot_of channel c) (given_back (room_at r (slot_of channel c)) (need_of (at (inbox_at r channel) place))))
    r.reply

-- what was found stands before this place
abbrev pub is_before : Option ℕ → ℕ → Bool
is_before (Some i) place = ltb i place
is_before None place = false

-- 21: none waiting; 22: not posted, and a posted packet that arrived earlier waits on that channel;
-- for a posted one the first posted is itself, so 22 is never given
unfoldable pub taken_at : Receiver → ℕ → Category → Option ℕ → Got
taken_at r channel c None = got r 21 0
taken_at r channel c (Some place) =
    if is_before (find (is_of Posted) (held (inbox_at r channel)) 0) place then got r 22 0
    else got (handed_out r channel c place) 0 (at (inbox_at r channel) place).ident

-- the oldest of its category
abbrev pub taken : Receiver → ℕ → Category → Got
taken r channel c = taken_at r channel c (find (is_of c) (held (inbox_at r channel)) 0)

abbrev pub taken_by : Receiver → ℕ → Option Category → Got
taken_by r channel (Some c) = taken r channel c
taken_by r channel None = got r 20 0

-- 20: channel not below n, or category over 2
unfoldable pub take_of : Receiver → ℕ → ℕ → ℕ → Got
take_of r n channel category =
    if leb n channel then got r 20 0
    else if leb channels channel then got r 20 0
    else taken_by r channel (numbered category)
