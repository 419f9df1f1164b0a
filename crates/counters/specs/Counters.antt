-- The four counters, their moduli and half ranges, and the tests that document 01 makes on them.
-- Header units and data units stand side by side in `Counts`; no sum takes one of each. Assumes nothing.
use Rattle.std.specs.Prelude.{ℕ, ◌-◌, Bool, ◌&&◌, ◌==◌, if◌then◌else◌}
use Rattle.counters.specs.Wrapped.{plus, minus, within, gate}
use Rattle.counters.specs.declared.Header.{Header}
use Rattle.counters.specs.declared.Data.{Data}
use Rattle.counters.specs.declared.Seq.{Seq}
use Rattle.counters.specs.declared.Retrain.{Retrain}
use Rattle.counters.specs.declared.Counts.{Counts}
use Rattle.counters.specs.declared.Order.{Order}

-- ---- header units wrap at 256

abbrev pub header_range : ℕ
header_range = 256

abbrev pub header_half : ℕ
header_half = 128

abbrev pub headers : ℕ → Header
headers n = record { 0 = n }

-- ---- data units wrap at 4,096

abbrev pub data_range : ℕ
data_range = 4096

abbrev pub data_half : ℕ
data_half = 2048

abbrev pub datas : ℕ → Data
datas n = record { 0 = n }

-- ---- sequence numbers wrap at 4,096

abbrev pub seq_range : ℕ
seq_range = 4096

abbrev pub seq_half : ℕ
seq_half = 2048

abbrev pub seq : ℕ → Seq
seq n = record { 0 = n }

-- the number after, and the number before: an Ack carries next-receive − 1
abbrev pub next_of : Seq → Seq
next_of s = seq (plus seq_range s.0 1)

abbrev pub before_of : Seq → Seq
before_of s = seq (minus seq_range s.0 1)

-- the number n after
abbrev pub after_of : Seq → ℕ → Seq
after_of s n = seq (plus seq_range s.0 n)

-- equal to next-receive; else a duplicate if (next-receive − number) modulo 4,096 is at most 2,048; else out of order
abbrev pub order_of : Seq → Seq → Order
order_of next number =
    if number.0 == next.0 then Order.Next
    else if within seq_range seq_half next.0 number.0 then Order.Duplicate
    else Order.OutOfOrder

-- 24: neither the last acknowledged number nor that of one of the `out` packets sent after it
abbrev pub ack_answer : Seq → ℕ → Seq → ℕ
ack_answer acked out number = if within seq_range out number.0 acked.0 then 0 else 24

-- ---- the retrain count wraps at 65,536

abbrev pub retrain_range : ℕ
retrain_range = 65536

abbrev pub retrains : ℕ → Retrain
retrains n = record { 0 = n }

-- ---- a count of header units beside one of data units

abbrev pub counts : Header → Data → Counts
counts h d = record { h = h; d = d }

unfoldable pub added : Counts → Counts → Counts
added a b = counts (headers (plus header_range a.h.0 b.h.0)) (datas (plus data_range a.d.0 b.d.0))

-- what lies between two counts
unfoldable pub between : Counts → Counts → Counts
between a b = counts (headers (minus header_range a.h.0 b.h.0)) (datas (minus data_range a.d.0 b.d.0))

-- a packet may be sent if, for header and for data, (limit − consumed − need) modulo the range is at most half the range
unfoldable pub may_send : Counts → Counts → Counts → Bool
may_send limit consumed need =
    gate header_range header_half limit.h.0 consumed.h.0 need.h.0
    && gate data_range data_half limit.d.0 consumed.d.0 need.d.0

-- 25: not at most 127 header and 2,047 data units ahead of the limits stored
unfoldable pub update_answer : Counts → Counts → ℕ
update_answer stored new =
    if within header_range (header_half - 1) new.h.0 stored.h.0 && within data_range (data_half - 1) new.d.0 stored.d.0
    then 0
    else 25
