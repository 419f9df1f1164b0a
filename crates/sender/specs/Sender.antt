-- The sending half of an end: its state, the start, Submit's change, a replay's start and Timer.
-- Assumes nothing.
use Rattle.std.specs.Prelude.{ℕ, ◌+◌, List, map, ltb, eqb, set, get_or, drop, replicate, if◌then◌else◌, Some, None, Option, Result, Ok, Err}
use Rattle.answers.specs.declared.Refusal.{Refusal}
use Rattle.answers.specs.Answers.{number_of}
use Rattle.counters.specs.declared.Seq.{Seq}
use Rattle.counters.specs.declared.Retrain.{Retrain}
use Rattle.counters.specs.Wrapped.{plus}
use Rattle.counters.specs.Counters.{seq, before_of, retrains, retrain_range}
use Rattle.credits.specs.declared.Credit.{Credit}
use Rattle.credits.specs.Credits.{credit_for, none, advertised}
use Rattle.packets.specs.declared.Packet.{Packet}
use Rattle.store.specs.declared.Packets.{Packets}
use Rattle.store.specs.Store.{empty, pushed}
use Rattle.setup.specs.declared.Setup.{Setup}
use Rattle.setup.specs.declared.Units.{Units}
use Rattle.setup.specs.Setup.{channels, per_end}
use Rattle.sender.specs.declared.Replay.{Replay}
use Rattle.sender.specs.declared.Sender.{Sender}

abbrev pub replay : Option ℕ → ℕ → Retrain → Replay
replay at count again = record { at = at; count = count; retrains = again }

abbrev pub sender : List Packets → List Credit → Packets → Seq → Seq → Replay → Sender
sender queues credits buffer next acked r =
    record { queues = queues; credits = credits; buffer = buffer; next = next; acked = acked; replay = r }

-- ---- the start: consumed from 0, limit from the other end's setup; the next number from 0, the last acknowledged from 4,095

abbrev pub credit_of : Units → Credit
credit_of u = credit_for (advertised u.header u.payload)

-- the setup is turned so that its end 1 is the other end
unfoldable pub start_of : Setup → Sender
start_of link =
    sender (replicate channels empty) (map credit_of (drop per_end link.units)) empty (seq 0) (before_of (seq 0)) (replay None 0 (retrains 0))

-- ---- its parts: a channel's queue, the credit of a channel and category

abbrev pub queue_at : Sender → ℕ → Packets
queue_at s channel = get_or s.queues channel empty

abbrev pub credit_at : Sender → ℕ → Credit
credit_at s slot = get_or s.credits slot (credit_for none)

abbrev pub with_queue : Sender → ℕ → Packets → Sender
with_queue s channel q = sender (set s.queues channel q) s.credits s.buffer s.next s.acked s.replay

abbrev pub with_credit : Sender → ℕ → Credit → Sender
with_credit s slot c = sender s.queues (set s.credits slot c) s.buffer s.next s.acked s.replay

abbrev pub with_replay : Sender → Replay → Sender
with_replay s r = sender s.queues s.credits s.buffer s.next s.acked r

-- ---- Submit: the packet joins its channel's send queue

unfoldable pub submitted : Sender → ℕ → Packet → Sender
submitted s channel p = with_queue s channel (pushed (queue_at s channel) p)

-- ---- a replay starts at the oldest unacknowledged packet; each start adds one to the replay count; from 3 it goes to 0 and the retrain count grows by one

unfoldable pub begun : Replay → Replay
begun r =
    if ltb r.count 3
    then replay (Some 0) (r.count + 1) r.retrains
    else replay (Some 0) 0 (retrains (plus retrain_range r.retrains.0 1))

-- the half after it was told something, with what is answered: 0, or why nothing changed
pub record Told : Type 0 where
  pub sender : Sender
  pub answer : ℕ

abbrev pub told : Sender → ℕ → Told
told s answer = record { sender = s; answer = answer }

-- a refusal leaves it as it was
abbrev pub told_of : Sender → Result Sender Refusal → Told
told_of s (Ok x) = told x 0
told_of s (Err refusal) = told s (number_of refusal)

-- Timer, also while a replay runs; 23: nothing unacknowledged
unfoldable pub timer_of : Sender → Told
timer_of s = if eqb s.buffer.len 0 then told s 23 else told (with_replay s (begun s.replay)) 0
