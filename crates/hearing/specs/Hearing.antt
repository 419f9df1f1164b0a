-- What a link message does at the sending half of an end. Document 01, "What an arrival does", its last two paragraphs.
-- Assumes nothing.
use Rattle.std.specs.Prelude.{ℕ, ◌-◌, Bool, true, false, ◌&&◌, leb, ltb, eqb, if◌then◌else◌, Some, None, Option}
use Rattle.packets.specs.Packets.{slot_of}
use Rattle.counters.specs.declared.Counts.{Counts}
use Rattle.counters.specs.declared.Seq.{Seq}
use Rattle.counters.specs.Wrapped.{minus}
use Rattle.counters.specs.Counters.{seq_range, ack_answer, update_answer}
use Rattle.credits.specs.Credits.{updated}
use Rattle.packets.specs.declared.Category.{Category}
use Rattle.frames.specs.declared.Message.{Message}
use Rattle.store.specs.Store.{released}
use Rattle.setup.specs.Setup.{channels}
use Rattle.sender.specs.declared.Sender.{Sender}
use Rattle.sender.specs.Sender.{Told}
use Rattle.sender.specs.Sender.{replay, sender, credit_at, with_credit, with_replay, begun, told}

-- ---- an accepted Ack or Nak number

-- how many packets it releases: all up to it
abbrev pub releases : Sender → Seq → ℕ
releases s number = minus seq_range number.0 s.acked.0

-- k packets are released and `left` are left: a running replay stays at its next packet;
-- if that one is released it goes on at the oldest left, or ends if none is left
abbrev pub moved : ℕ → ℕ → Option ℕ → Option ℕ
moved k left None = None
moved k left (Some i) = if leb k i then Some (i - k) else if eqb left 0 then None else Some 0

-- the replay count is set to 0
unfoldable pub acknowledged : Sender → Seq → Sender
acknowledged s number =
    let k = releases s number in
    let rest = released s.buffer k in
    sender s.queues s.credits rest s.next number (replay (moved k rest.len s.replay.at) 0 s.replay.retrains)

-- a Nak then starts a replay if anything is left
unfoldable pub again : Sender → Sender
again s = if eqb s.buffer.len 0 then s else with_replay s (begun s.replay)

-- ---- an update: both limits are replaced

-- 25: not accepted; also where there is no such channel
unfoldable pub limited : Sender → ℕ → Category → Counts → Told
limited s channel c limits =
    let now = credit_at s (slot_of channel c) in
    if (ltb channel channels && eqb (update_answer now.limit limits) 0)
    then told (with_credit s (slot_of channel c) (updated now limits)) 0
    else told s 25

-- ---- the message

-- 24: Ack or Nak number not accepted
unfoldable pub answered : Sender → Seq → Bool → Told
answered s number nak =
    if eqb (ack_answer s.acked s.buffer.len number) 0
    then told (if nak then again (acknowledged s number) else acknowledged s number) 0
    else told s 24

unfoldable pub hears : Sender → Message → Told
hears s (Message.Ack number) = answered s number false
hears s (Message.Nak number) = answered s number true
hears s (Message.Update channel c limits) = limited s channel c limits
