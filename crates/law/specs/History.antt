-- The history of a pair: what each step answered, and which packets were accepted and taken. Demand 3 speaks of these.
-- Assumes nothing.
use Rattle.std.specs.Prelude.{ℕ, ◌+◌, ◌-◌, ◌<◌, ◌≡◌, Bool, true, ◌&&◌, List, [], ◌∷◌, map, eqb, length, get_or, drop, if◌then◌else◌, Some, None, Option}
use Rattle.basics.specs.Lists.{filter}
use Rattle.counters.specs.Wrapped.{minus}
use Rattle.counters.specs.Counters.{seq_range, next_of}
use Rattle.packets.specs.declared.Packet.{Packet}
use Rattle.packets.specs.declared.Category.{Category}
use Rattle.packets.specs.Packets.{numbered}
use Rattle.store.specs.Store.{held, no_packet, of_category}
use Rattle.setup.specs.declared.Setup.{Setup}
use Rattle.setup.specs.Setup.{slots, per_end, in_range, channel_of}
use Rattle.sender.specs.Sender.{queue_at, credit_at}
use Rattle.receiver.specs.Receiver.{inbox_at, room_at}
use Rattle.script.specs.declared.Step.{Step}
use Rattle.script.specs.Step.{is_submit, is_take}
use Rattle.pairs.specs.declared.Pair.{Pair}
use Rattle.pairs.specs.Pairs.{end_at, other}
use Rattle.pairs.specs.Steps.{packet_of, step_of}

-- ---- an accepted setup: 5 does not refuse it; its array of units has the length that every value of the code has

pub record Accepted (link : Setup) : Type 0 where
  pub rule : in_range link ≡ true
  pub long : length link.units ≡ slots

-- ---- what happened

-- a step, its answer and detail, and the packet that it is about
pub record Event : Type 0 where
  pub step : Step
  pub answer : ℕ
  pub detail : ℕ
  pub packet : Packet

-- the oldest packet of a category, by the category's number
abbrev pub oldest_of : Option Category → List Packet → Packet
oldest_of (Some c) ps = get_or (of_category c ps) 0 no_packet
oldest_of None ps = no_packet

-- Submit is about its own packet; Take by channel and category hands out the oldest such packet
abbrev pub about : Pair → Step → Packet
about p t =
    if is_submit t.step then packet_of t
    else if is_take t.step then oldest_of (numbered t.kind) (held (inbox_at (end_at p t.end).receiver t.class))
    else no_packet

abbrev pub event : Pair → Step → Event
event p t = record { step = t; answer = (step_of p t).answer; detail = (step_of p t).detail; packet = about p t }

unfoldable pub history : Pair → List Step → List Event
history p [] = []
history p (t ∷ ts) = event p t ∷ history (step_of p t).pair ts

-- ---- accepted: those that Submit answered with 0 at an end; taken: those that Take handed out at an end

abbrev pub succeeded : (ℕ → Bool) → ℕ → Event → Bool
succeeded isIt end e = isIt e.step.step && (eqb e.step.end end && eqb e.answer 0)

unfoldable pub accepted : ℕ → List Event → List Packet
accepted end es = map (λ e. e.packet) (filter (succeeded is_submit end) es)

unfoldable pub taken : ℕ → List Event → List Packet
taken end es = map (λ e. e.packet) (filter (succeeded is_take end) es)

-- ---- in a pair, from end i to the other end, on a channel

-- of some packets those of a channel
abbrev pub on_channel : Setup → ℕ → List Packet → List Packet
on_channel link channel ps = filter (λ p. eqb (channel_of link p.class) channel) ps

-- waiting to be sent, and waiting at the receiver
abbrev pub waiting_to_be_sent : Pair → ℕ → ℕ → List Packet
waiting_to_be_sent p i channel = held (queue_at (end_at p i).sender channel)

abbrev pub waiting_at_receiver : Pair → ℕ → ℕ → List Packet
waiting_at_receiver p i channel = held (inbox_at (end_at p (other i)).receiver channel)

-- sent and not yet received: what the replay buffer holds, without those before the receiver's next-receive
unfoldable pub sent_not_received : Pair → ℕ → List Packet
sent_not_received p i =
    let s = (end_at p i).sender in
    let next = (end_at p (other i)).receiver.reply.next_receive in
    drop (minus seq_range next.0 (next_of s.acked).0) (held s.buffer)

-- ---- how many are accepted at either end and not yet taken at the other

unfoldable pub untaken : List Event → ℕ
untaken es = (length (accepted 0 es) - length (taken 1 es)) + (length (accepted 1 es) - length (taken 0 es))

-- ---- a direction that has caught up, from end i

pub record CaughtUp (p : Pair) (i : ℕ) : Type 0 where
  pub no_replay : (end_at p i).sender.replay.at ≡ None
  pub buffer_empty : (end_at p i).sender.buffer.len ≡ 0  -- everything sent is acknowledged
  pub all_received : sent_not_received p i ≡ []
  pub numbers_agree : (end_at p i).sender.next ≡ (end_at p (other i)).receiver.reply.next_receive
  pub limits_agree : (slot : ℕ) → slot < per_end → (credit_at (end_at p i).sender slot).limit ≡ (room_at (end_at p (other i)).receiver slot).allocated
