-- The law of wrapped counters at header units, data units and sequence numbers: each test on stored counts is the plain one on true counts.
-- Assumes nothing.
use Rattle.std.proofs.Common.{◌≡◌, ℕ, ◌+◌, ◌-◌, ◌%◌, ◌<◌, ◌≤◌, true, leb, arith}
use Rattle.counters.specs.Wrapped.{minus, within, gate}
use Rattle.counters.specs.Counters.{header_range, header_half, data_range, data_half, seq_range, seq_half}
use Rattle.counters.proofs.Wrap.{gate-true, within_half, within_window, within_reaches, within_only}

-- a limit at most half the range ahead of what is consumed allows exactly what fits below it
pub header_gate_lem : (limit consumed need : ℕ) → consumed ≤ limit → limit - consumed ≤ 128 → need < 128
    → gate header_range header_half (limit % 256) (consumed % 256) need ≡ leb (consumed + need) limit
header_gate_lem l c n h k d = gate-true 256 (omega arith) 128 l c n (omega arith) h k d

pub data_gate_lem : (limit consumed need : ℕ) → consumed ≤ limit → limit - consumed ≤ 2048 → need < 2048
    → gate data_range data_half (limit % 4096) (consumed % 4096) need ≡ leb (consumed + need) limit
data_gate_lem l c n h k d = gate-true 4096 (omega arith) 2048 l c n (omega arith) h k d

-- a number is a duplicate if it is not past next-receive
pub duplicate : (next number : ℕ) → next - number ≤ 2048 → number - next < 2048
    → within seq_range seq_half (next % 4096) (number % 4096) ≡ leb number next
duplicate next n up down = within_half 4096 (omega arith) 2048 next n (omega arith) up down

-- an Ack or Nak is accepted if it is not past the last packet that is out
pub ack_window : (number acked out : ℕ) → acked ≤ number → number - acked < 4096
    → within seq_range out (number % 4096) (acked % 4096) ≡ leb number (acked + out)
ack_window n a out h lt = within_window 4096 (omega arith) out n a h lt

-- the number acknowledged last (k = 0) and those of the packets out (k from 1 to out) are accepted, and no others
pub ack_reaches : (acked out k : ℕ) → k ≤ out → k < 4096 → within seq_range out ((acked + k) % 4096) (acked % 4096) ≡ true
ack_reaches a out k h lt = within_reaches 4096 (omega arith) out k a h lt

pub ack_only : (number acked out : ℕ) → number < 4096 → within seq_range out number acked ≡ true
    → (minus seq_range number acked ≤ out) × ((acked + minus seq_range number acked) % 4096 ≡ number)
ack_only n a out lt e = within_only 4096 (omega arith) out n a lt e

-- an update is accepted if it is not too far ahead
pub header_update : (new stored : ℕ) → stored ≤ new → new - stored < 256
    → within header_range (header_half - 1) (new % 256) (stored % 256) ≡ leb new (stored + 127)
header_update n s h lt = within_window 256 (omega arith) 127 n s h lt

pub data_update : (new stored : ℕ) → stored ≤ new → new - stored < 4096
    → within data_range (data_half - 1) (new % 4096) (stored % 4096) ≡ leb new (stored + 2047)
data_update n s h lt = within_window 4096 (omega arith) 2047 n s h lt
