-- True amounts of header and data units, of any size, behind the wrapped counts that the ends store.
-- Header units and data units stand side by side; no sum takes one of each. Assumes nothing.
use Rattle.std.specs.Prelude.{ℕ, ◌+◌, ◌%◌, ◌≤◌, Bool, List, eqb, get_or}
use Rattle.basics.specs.Lists.{filter}
use Rattle.counters.specs.declared.Counts.{Counts}
use Rattle.counters.specs.Counters.{header_range, data_range, headers, datas, counts}
use Rattle.packets.specs.declared.Packet.{Packet}
use Rattle.packets.specs.Packets.{category_of, slot_of, header_units, data_units, headers_together, data_together}
use Rattle.setup.specs.declared.Setup.{Setup}
use Rattle.setup.specs.Setup.{channel_of, per_end, no_units}

pub record Amount : Type 0 where
  pub h : ℕ
  pub d : ℕ

abbrev pub amount : ℕ → ℕ → Amount
amount h d = record { h = h; d = d }

-- both at most as large
pub record Fits (a b : Amount) : Type 0 where
  pub h : a.h ≤ b.h
  pub d : a.d ≤ b.d

abbrev pub plus : Amount → Amount → Amount
plus a b = amount (a.h + b.h) (a.d + b.d)

-- what is stored of an amount
unfoldable pub wrapped : Amount → Counts
wrapped a = counts (headers (a.h % header_range)) (datas (a.d % data_range))

-- ---- of packets

abbrev pub amount_of : Packet → Amount
amount_of p = amount (header_units p) (data_units p)

unfoldable pub together : List Packet → Amount
together ps = amount (headers_together ps) (data_together ps)

-- the channel of a packet, and those of some packets that are on a channel
abbrev pub channel_for : Setup → Packet → ℕ
channel_for link p = channel_of link p.class

abbrev pub is_on : Setup → ℕ → Packet → Bool
is_on link channel p = eqb (channel_for link p) channel

abbrev pub on : Setup → ℕ → List Packet → List Packet
on link channel ps = filter (is_on link channel) ps

-- the slot of a packet's channel and category, and those of some packets that have this slot
abbrev pub slot_for : Setup → Packet → ℕ
slot_for link p = slot_of (channel_for link p) (category_of p)

abbrev pub in_slot : Setup → ℕ → List Packet → List Packet
in_slot link slot ps = filter (λ p. eqb (slot_for link p) slot) ps

-- what the packets of a slot cost together
unfoldable pub load : Setup → List Packet → ℕ → Amount
load link ps slot = together (in_slot link slot ps)

-- ---- of a setup

-- what the other end gives, by slot
unfoldable pub given : Setup → ℕ → Amount
given link slot =
    let u = get_or link.units (per_end + slot) no_units in
    amount u.header u.payload

-- what a receiver allocated, all in all: its units and those of the packets taken
unfoldable pub allowed : Setup → List Packet → ℕ → Amount
allowed link taken slot = plus (given link slot) (load link taken slot)
