-- The twelve figures (a) to (l): what the definitions give, beside what document 01 wants.
-- Assumes nothing.
use Rattle.std.specs.Prelude.{ℕ, Bool, List, [], ◌∷◌, if◌then◌else◌}
use Rattle.counters.specs.declared.Order.{Order}
use Rattle.counters.specs.Wrapped.{gate}
use Rattle.counters.specs.Counters.{header_range, header_half, data_range, data_half, seq, order_of, ack_answer}
use Rattle.packets.specs.Packets.{data_units}

-- ---- the questions

-- units of kind 1 of this length
abbrev pub units : ℕ → ℕ
units n = data_units (record { kind = 1; class = 0; length = n; ident = 0 })

abbrev pub yes : ℕ
yes = 1

abbrev pub no : ℕ
no = 0

abbrev pub answered : Bool → ℕ
answered b = if b then yes else no

-- limit, consumed, need: may it be sent?
abbrev pub header_gate : ℕ → ℕ → ℕ → ℕ
header_gate limit consumed need = answered (gate header_range header_half limit consumed need)

abbrev pub data_gate : ℕ → ℕ → ℕ → ℕ
data_gate limit consumed need = answered (gate data_range data_half limit consumed need)

-- what a packet of this number is at this next-receive, by the detail of its arrival
abbrev pub accepted : ℕ
accepted = 1

abbrev pub duplicate : ℕ
duplicate = 2

abbrev pub out_of_order : ℕ
out_of_order = 3

abbrev pub detail : Order → ℕ
detail Order.Next = accepted
detail Order.Duplicate = duplicate
detail Order.OutOfOrder = out_of_order

abbrev pub arrival : ℕ → ℕ → ℕ
arrival next number = detail (order_of (seq next) (seq number))

-- acknowledged last, packets out, the number of an Ack
abbrev pub ack : ℕ → ℕ → ℕ → ℕ
ack acked out number = ack_answer (seq acked) out (seq number)

-- ---- the table

pub record Figure : Type 0 where
  pub got : ℕ
  pub wanted : ℕ

abbrev pub fig : ℕ → ℕ → Figure
fig g w = record { got = g; wanted = w }

abbrev pub figures : List Figure
figures =
    fig (units 1) 1  -- (a)
    ∷ fig (units 4) 1  -- (b)
    ∷ fig (units 5) 2  -- (c)
    ∷ fig (units 1024) 256  -- (d)
    ∷ fig (header_gate 2 255 1) yes  -- (e)
    ∷ fig (header_gate 255 255 1) no  -- (f)
    ∷ fig (data_gate 5 4090 11) yes  -- (g)
    ∷ fig (data_gate 5 4090 12) no  -- (h)
    ∷ fig (arrival 0 2048) duplicate  -- (i)
    ∷ fig (arrival 0 2047) out_of_order  -- (j)
    ∷ fig (ack 4095 3 2) 0  -- (k)
    ∷ fig (ack 4095 3 3) 24  -- (l)
    ∷ []
