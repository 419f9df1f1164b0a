-- The packets that the sending half has for the line: the next of a running replay, or a new one.
-- Assumes nothing.
use Rattle.std.specs.Prelude.{ℕ, zero, suc, ◌+◌, List, [], ◌∷◌, ltb, set, if◌then◌else◌, Some, None, Option}
use Rattle.counters.specs.Counters.{after_of, next_of}
use Rattle.credits.specs.declared.Credit.{Credit}
use Rattle.credits.specs.Credits.{spent}
use Rattle.packets.specs.declared.Packet.{Packet}
use Rattle.packets.specs.declared.Category.TheVariants.{Posted, NonPosted, Completion}
use Rattle.packets.specs.Packets.{category_of, need_of, slot_of}
use Rattle.frames.specs.declared.Frame.{Frame}
use Rattle.store.specs.Store.{held, at, pushed, removed}
use Rattle.choice.specs.Choice.{chosen}
use Rattle.setup.specs.Setup.{channels}
use Rattle.sender.specs.declared.Sender.{Sender}
use Rattle.sender.specs.Sender.{replay, sender, with_replay, queue_at, credit_at}

-- ---- the next replay packet

-- the packet at a place of the replay buffer, whose numbers run from the last acknowledged + 1
abbrev pub replay_frame : Sender → ℕ → Frame
replay_frame s i = Frame.Packet (after_of (next_of s.acked) i) (at s.buffer i)

-- the place after place i, where there is one below len
abbrev pub place_after : ℕ → ℕ → Option ℕ
place_after i len = if ltb (i + 1) len then Some (i + 1) else None

-- a replay ends after its last packet, and adds to no counter
unfoldable pub replayed : Sender → ℕ → Sender
replayed s i = with_replay s (replay (place_after i s.buffer.len) s.replay.count s.replay.retrains)

-- ---- a new packet

abbrev pub buffer_bound : ℕ
buffer_bound = 16

-- the credits of a channel: P, NP, C
abbrev pub credits_of : Sender → ℕ → List Credit
credits_of s channel =
    credit_at s (slot_of channel Posted) ∷ credit_at s (slot_of channel NonPosted) ∷ credit_at s (slot_of channel Completion) ∷ []

-- a channel's oldest eligible packet
abbrev pub chosen_in : Sender → ℕ → Option ℕ
chosen_in s channel = chosen (credits_of s channel) (held (queue_at s channel))

abbrev pub on_found : Option ℕ → (ℕ → Option (ℕ × ℕ)) → Option (ℕ × ℕ) → Option (ℕ × ℕ)
on_found (Some i) found later = found i
on_found None found later = later

-- the highest channel below c that has an eligible one
unfoldable pub highest : Sender → ℕ → Option (ℕ × ℕ)
highest s zero = None
highest s (suc c) = on_found (chosen_in s c) (λ i. Some (c, i)) (highest s c)

-- if the replay buffer has room
unfoldable pub new_of : Sender → Option (ℕ × ℕ)
new_of s = if ltb s.buffer.len buffer_bound then highest s channels else None

abbrev pub new_packet : Sender → ℕ → ℕ → Packet
new_packet s channel place = at (queue_at s channel) place

-- it takes the next sequence number
abbrev pub new_frame : Sender → ℕ → ℕ → Frame
new_frame s channel place = Frame.Packet s.next (new_packet s channel place)

-- adds to consumed and enters the replay buffer
unfoldable pub sent_new : Sender → ℕ → ℕ → Sender
sent_new s channel place =
    let p = new_packet s channel place in
    if ltb channel channels
    then sender
    (set s.queues channel (removed (queue_at s channel) place))
    (set s.credits (slot_of channel (category_of p)) (spent (credit_at s (slot_of channel (category_of p))) (need_of p)))
    (pushed s.buffer p)
    (next_of s.next)
    s.acked
    s.replay
    else s
