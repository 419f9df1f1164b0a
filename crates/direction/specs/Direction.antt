-- One direction of the link: a sending half, the line forth, the other end's receiving half and the line back, and how their wrapped numbers
-- stand to a past in true numbers. `link` is the setup as the sending end sees it: the receiving end's units are its second half.
-- Assumes nothing.
use Rattle.std.specs.Prelude.{ℕ, suc, ◌+◌, ◌-◌, ◌*◌, ◌%◌, ◌≤◌, ◌<◌, ◌≡◌, Bool, true, ◌&&◌, List, [], ◌∷◌, ◌++◌, leb, eqb, length, get_or, take, drop, Some}
use Rattle.basics.specs.Lists.{all}
use Rattle.counters.specs.Counters.{seq}
use Rattle.packets.specs.declared.Packet.{Packet}
use Rattle.packets.specs.declared.Category.{Category}
use Rattle.packets.specs.Packets.{packet_answer, data_units}
use Rattle.store.specs.declared.Packets.{Packets}
use Rattle.store.specs.Store.{capacity, held, of_category}
use Rattle.line.specs.declared.Slot.{Slot}
use Rattle.setup.specs.declared.Setup.{Setup}
use Rattle.setup.specs.Setup.{channels, per_end, no_units, in_range}
use Rattle.sender.specs.declared.Sender.{Sender}
use Rattle.sender.specs.Sender.{queue_at, credit_at}
use Rattle.sender.proofs.Arrays as S
use Rattle.receiver.specs.declared.Receiver.{Receiver}
use Rattle.receiver.specs.Receiver.{inbox_at, room_at}
use Rattle.receipts.proofs.Arrays as R
use Rattle.orders.specs.Orders.{Orders}
use Rattle.amounts.specs.Amounts.{Amount, Fits, wrapped, is_on, on, slot_for, load, given, allowed}
use Rattle.traffic.specs.Traffic.{Forth, Acks, Updates, up_to, put}

-- ---- the past

pub record Past : Type 0 where
  pub accepted : List Packet  -- by Submit, in order
  pub sent : List Packet  -- as new, in order
  pub acked : ℕ  -- how many of these are acknowledged
  pub got : ℕ  -- how many are received
  pub taken : List Packet  -- by Take, in order
  pub limit : ℕ → Amount  -- the true limit that the sender stores, by slot

-- those received, and those sent and not yet received
abbrev pub arrived : Past → List Packet
arrived g = take g.got g.sent

abbrev pub on_the_way : Past → List Packet
on_the_way g = drop g.got g.sent

-- one more accepted, sent, received, taken; v acknowledged; another limit at a slot
abbrev pub accepting : Past → Packet → Past
accepting g p = record { accepted = g.accepted ++ (p ∷ []); sent = g.sent; acked = g.acked; got = g.got; taken = g.taken; limit = g.limit }

abbrev pub sending_one : Past → Packet → Past
sending_one g p = record { accepted = g.accepted; sent = g.sent ++ (p ∷ []); acked = g.acked; got = g.got; taken = g.taken; limit = g.limit }

abbrev pub getting_one : Past → Past
getting_one g = record { accepted = g.accepted; sent = g.sent; acked = g.acked; got = suc g.got; taken = g.taken; limit = g.limit }

abbrev pub taking : Past → Packet → Past
taking g p = record { accepted = g.accepted; sent = g.sent; acked = g.acked; got = g.got; taken = g.taken ++ (p ∷ []); limit = g.limit }

abbrev pub acking : Past → ℕ → Past
acking g v = record { accepted = g.accepted; sent = g.sent; acked = v; got = g.got; taken = g.taken; limit = g.limit }

abbrev pub limiting : Past → ℕ → Amount → Past
limiting g slot x = record { accepted = g.accepted; sent = g.sent; acked = g.acked; got = g.got; taken = g.taken; limit = put g.limit slot x }

-- acknowledged, received, sent: each at most the next, and at most 16 unacknowledged
pub record Numbers (sent acked got : ℕ) : Type 0 where
  pub low : acked ≤ got
  pub mid : got ≤ sent
  pub high : sent ≤ acked + 16

-- ---- packets at rest

-- the packet rules refuse nothing, it is of this channel
unfoldable pub belongs : Setup → ℕ → Packet → Bool
belongs link channel p = is_on link channel p && eqb (packet_answer p) 0

-- the other end's setup gives at least its data units
unfoldable pub affordable : Setup → Packet → Bool
affordable link p = leb (data_units p) (given link (slot_for link p)).d

-- a list of packets of one channel that `from` entered and `out` left
pub record Waits (link : Setup) (channel : ℕ) (from out : List Packet) (q : Packets) : Type 0 where
  pub bound : q.len ≤ capacity
  pub belong : all (belongs link channel) (held q) ≡ true
  pub orders : Orders from out (held q)

-- ---- the sending half

pub record Sending (link : Setup) (accepted sent : List Packet) (acked : ℕ) (s : Sender) : Type 0 where
  pub next_is : s.next ≡ seq (length sent % 4096)
  pub acked_is : s.acked ≡ seq (up_to acked)
  pub buffer_is : held s.buffer ≡ drop acked sent
  pub buffer_len : s.buffer.len ≡ length sent - acked
  pub replay_in_lem : (i : ℕ) → s.replay.at ≡ Some i → i < s.buffer.len
  pub count_fits : s.replay.count ≤ 3
  pub known : all (λ p. eqb (packet_answer p) 0) accepted ≡ true
  pub formed : all (λ p. eqb (packet_answer p) 0) sent ≡ true
  pub queue : (channel : ℕ) → channel < channels → Waits link channel (on link channel accepted) (on link channel sent) (queue_at s channel)
  pub few : (channel : ℕ) (c : Category) → channel < channels → length (of_category c (held (queue_at s channel))) ≤ 8
  pub small : (channel : ℕ) → channel < channels → all (affordable link) (held (queue_at s channel)) ≡ true

-- its credits: what is consumed is what was sent, and is within the limit
pub record Crediting (link : Setup) (sent : List Packet) (limit : ℕ → Amount) (s : Sender) : Type 0 where
  pub limit_is : (slot : ℕ) → slot < per_end → (credit_at s slot).limit ≡ wrapped (limit slot)
  pub consumed_is : (slot : ℕ) → slot < per_end → (credit_at s slot).consumed ≡ wrapped (load link sent slot)
  pub within : (slot : ℕ) → Fits (load link sent slot) (limit slot)

-- ---- the receiving half

pub record Receiving (link : Setup) (arrived taken : List Packet) (got : ℕ) (r : Receiver) : Type 0 where
  pub next_is : r.reply.next_receive ≡ seq (got % 4096)
  pub inbox : (channel : ℕ) → channel < channels → Waits link channel (on link channel arrived) (on link channel taken) (inbox_at r channel)
  pub known : all (λ p. eqb (packet_answer p) 0) taken ≡ true
  pub marks : (slot : ℕ) → slot < per_end → (room_at r slot).marked ≡ true → slot < 3 * link.n

-- its rooms: what is received, and what is allocated
pub record Rooming (link : Setup) (arrived taken : List Packet) (r : Receiver) : Type 0 where
  pub allocated_is : (slot : ℕ) → slot < per_end → (room_at r slot).allocated ≡ wrapped (allowed link taken slot)
  pub received_is : (slot : ℕ) → slot < per_end → (room_at r slot).received ≡ wrapped (load link arrived slot)

-- ---- the direction

pub record Direction (link : Setup) (g : Past) (s : Sender) (forth : List Slot) (r : Receiver) (back : List Slot) : Type 0 where
  pub s_arrays : S.Arrays s
  pub r_arrays : R.Arrays r
  pub numbers : Numbers (length g.sent) g.acked g.got
  pub sending : Sending link g.accepted g.sent g.acked s
  pub crediting : Crediting link g.sent g.limit s
  pub receiving : Receiving link (arrived g) g.taken g.got r
  pub rooming : Rooming link (arrived g) g.taken r
  pub forth_ok : Forth g.sent g.got forth
  pub acks_ok : Acks g.acked g.got back
  pub updates_ok : Updates link.n g.limit (allowed link g.taken) back

-- ---- two directions: the setup as one end and as the other end sees it

pub record Facing (link other : Setup) : Type 0 where
  pub here : in_range link ≡ true
  pub there : in_range other ≡ true
  pub n_same : other.n ≡ link.n
  pub classes_same : other.classes ≡ link.classes
  pub near : (slot : ℕ) → slot < per_end → get_or link.units slot no_units ≡ get_or other.units (per_end + slot) no_units
  pub far : (slot : ℕ) → slot < per_end → get_or other.units slot no_units ≡ get_or link.units (per_end + slot) no_units
