-- Credits of one channel and category: consumed and limit at the sender, received and allocated at the receiver, the gate and the free room.
-- Document 01, "Packets and their units", Take and answers 25 and 26. Assumes nothing.
use Rattle.std.specs.Prelude.{ℕ, Bool, true, false, ◌&&◌, leb, ltb, if◌then◌else◌}
use Rattle.counters.specs.declared.Counts.{Counts}
use Rattle.counters.specs.Counters.{header_range, headers, datas, counts, added, between, may_send}
use Rattle.credits.specs.declared.Credit.{Credit}
use Rattle.credits.specs.declared.Room.{Room}

abbrev pub none : Counts
none = counts (headers 0) (datas 0)

-- the units that a setup gives; more header units than their counter holds, which answer 5 refuses, count as none
unfoldable pub advertised : ℕ → ℕ → Counts
advertised header units = counts (headers (if ltb header header_range then header else 0)) (datas units)

-- ---- as sender

abbrev pub credit : Counts → Counts → Credit
credit limit consumed = record { limit = limit; consumed = consumed }

-- consumed from 0, limit from the other end's setup
abbrev pub credit_for : Counts → Credit
credit_for limit = credit limit none

-- the credits suffice for this need
abbrev pub suffices : Credit → Counts → Bool
suffices c need = may_send c.limit c.consumed need

-- a new packet adds to consumed
unfoldable pub spent : Credit → Counts → Credit
spent c need = credit c.limit (added c.consumed need)

-- an accepted update: both limits are replaced
unfoldable pub updated : Credit → Counts → Credit
updated c limits = credit limits c.consumed

-- ---- as receiver

abbrev pub room : Counts → Counts → Bool → Room
room allocated received marked = record { allocated = allocated; received = received; marked = marked }

-- received from 0, allocated from its own setup
abbrev pub room_of : Counts → Room
room_of allocated = room allocated none false

-- free room (allocated − received)
abbrev pub free_of : Room → Counts
free_of r = between r.allocated r.received

-- 26: over the free header or data room
unfoldable pub room_answer : Room → Counts → ℕ
room_answer r need = if leb need.h.0 (free_of r).h.0 && leb need.d.0 (free_of r).d.0 then 0 else 26

-- an accepted packet: received counts grow
unfoldable pub received : Room → Counts → Room
received r need = room r.allocated (added r.received need) r.marked

-- Take adds the packet's units to allocated and marks that update
unfoldable pub given_back : Room → Counts → Room
given_back r need = room (added r.allocated need) r.received true

-- its update is marked; the update that carries both allocated counts clears its mark
unfoldable pub marked : Room → Room
marked r = room r.allocated r.received true

unfoldable pub unmarked : Room → Room
unmarked r = room r.allocated r.received false
