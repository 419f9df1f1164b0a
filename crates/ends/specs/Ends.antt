-- One end of a link: its state, the start, and its steps but Send. Document 01, "The eight steps" and "What an arrival does".
-- The setup is as the end sees it: its own units first, then the other end's. Assumes nothing.
use Rattle.std.specs.Prelude.{ℕ, leb, ltb, eqb, length, if◌then◌else◌, Result, Ok, Err}
use Rattle.answers.specs.declared.Refusal.{Refusal}
use Rattle.answers.specs.declared.After.{After}
use Rattle.answers.specs.Answers as A
use Rattle.basics.specs.Choice.{first_of}
use Rattle.packets.specs.declared.Packet.{Packet}
use Rattle.packets.specs.Packets.{number_of, category_of, packet_answer, data_units}
use Rattle.frames.specs.declared.Frame.{Frame}
use Rattle.frames.specs.Frames.{frame_answer}
use Rattle.store.specs.Store.{held, of_category}
use Rattle.setup.specs.declared.Setup.{Setup}
use Rattle.setup.specs.Setup.{blank_setup, in_range, channel_of, units_at}
use Rattle.sender.specs.declared.Sender.{Sender}
use Rattle.sender.specs.Sender.{Told}
use Rattle.sender.specs.Sender as S
use Rattle.receiver.specs.declared.Receiver.{Receiver}
use Rattle.receiver.specs.Receiver as R
use Rattle.hearing.specs.Hearing.{hears}
use Rattle.delivery.specs.Delivery.{Got}
use Rattle.delivery.specs.Delivery.{arrives, damaged, take_of}
use Rattle.ends.specs.declared.End.{End}

abbrev pub end : Setup → Sender → Receiver → End
end link s r = record { setup = link; sender = s; receiver = r }

-- the end after a step, with answer and detail
pub record Stepped : Type 0 where
  pub end : End
  pub answer : ℕ
  pub detail : ℕ

abbrev pub stepped : End → ℕ → ℕ → Stepped
stepped e answer detail = record { end = e; answer = answer; detail = detail }

-- a refusal leaves it as it was, with detail 0
abbrev pub stepped_of : End → Result (After End) Refusal → Stepped
stepped_of e (Ok x) = stepped x.state 0 x.detail
stepped_of e (Err refusal) = stepped e (A.number_of refusal) 0

-- ---- the start

unfoldable pub end_of : Setup → End
end_of link = end link (S.start_of link) (R.start_of link)

-- the end that was started, with the answer
pub record Started : Type 0 where
  pub end : End
  pub answer : ℕ

-- 5: the setup is out of range; then there is no end, and the end of the blank setup stands in its place
unfoldable pub start_of : Setup → Started
start_of link = if in_range link then record { end = end_of link; answer = 0 } else record { end = end_of blank_setup; answer = 5 }

abbrev pub started_of : Result End Refusal → Started
started_of (Ok e) = record { end = e; answer = 0 }
started_of (Err refusal) = record { end = end_of blank_setup; answer = A.number_of refusal }

-- ---- a change of one half: a refusal's half is as it was

abbrev pub by_sender : End → Told → Stepped
by_sender e t = stepped (end e.setup t.sender e.receiver) t.answer 0

abbrev pub by_receiver : End → Got → Stepped
by_receiver e g = stepped (end e.setup e.sender g.receiver) g.answer g.detail

-- ---- Submit: 12 to 14, then 15, then 16

abbrev pub channel_for : End → Packet → ℕ
channel_for e p = channel_of e.setup p.class

-- 15: needs more data units than the other end's setup gives (1 is the other end)
abbrev pub too_much : End → Packet → ℕ
too_much e p = if ltb (units_at e.setup 1 (channel_for e p) (number_of (category_of p))).payload (data_units p) then 15 else 0

-- 16: queue full: 8 of its category wait on its channel
abbrev pub too_many : End → Packet → ℕ
too_many e p = if leb 8 (length (of_category (category_of p) (held (S.queue_at e.sender (channel_for e p))))) then 16 else 0

unfoldable pub submit_answer : End → Packet → ℕ
submit_answer e p = first_of (packet_answer p) (first_of (too_much e p) (too_many e p))

-- it joins its channel's send queue
unfoldable pub submit_of : End → Packet → Stepped
submit_of e p =
    if eqb (submit_answer e p) 0
    then stepped (end e.setup (S.submitted e.sender (channel_for e p) p) e.receiver) 0 0
    else stepped e (submit_answer e p) 0

-- ---- a frame that arrives whole: 27, then 24, 25 or 26

abbrev pub heard : End → Frame → Stepped
heard e (Frame.Packet number p) = by_receiver e (arrives e.receiver (channel_for e p) number p)
heard e (Frame.Message m) = by_sender e (hears e.sender m)

unfoldable pub arrive_of : End → Frame → Stepped
arrive_of e f = if eqb (frame_answer e.setup.n f) 0 then heard e f else stepped e 27 0

-- ---- a frame that arrives damaged: both are dropped; a packet makes a Nak owed if the flag is clear

unfoldable pub damage_of : End → Frame → Stepped
damage_of e (Frame.Packet number p) = stepped (end e.setup e.sender (damaged e.receiver)) 0 4
damage_of e (Frame.Message m) = stepped e 0 4

-- ---- Take, Timer, Refresh

abbrev pub take_at : End → ℕ → ℕ → Stepped
take_at e channel category = by_receiver e (take_of e.receiver e.setup.n channel category)

abbrev pub timer_of : End → Stepped
timer_of e = by_sender e (S.timer_of e.sender)

unfoldable pub refresh_of : End → Stepped
refresh_of e = stepped (end e.setup e.sender (R.refreshed e.receiver e.setup.n)) 0 0
