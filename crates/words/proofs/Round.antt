-- Reading back the first word of a packet's frame.
-- Assumes that the number fits it.
use Prim.Native.Nat.{ℕ, ◌*◌, ◌/◌, ◌%◌, ◌<◌}
use mathlib.Core.Path.{◌≡◌, ap}
use native.Mathlib.Omega.{arith}
use Rattle.counters.specs.declared.Seq.{Seq}
use Rattle.counters.specs.Counters.{seq}
use Rattle.packets.specs.declared.Packet.{Packet}
use Rattle.frames.specs.declared.Frame.{Frame}
use Rattle.words.specs.Words.{packet_in, seq_in, frame_in}

pub packet-frame-round : (s : Seq) (p : Packet) (w : ℕ) → s.0 < 65536 → packet_in w ≡ p → frame_in (4 * s.0) w ≡ Frame.Packet s p
packet-frame-round s p w b e =
    let kind : 4 * s.0 % 4 ≡ 0 = omega arith in
    let number : seq_in (4 * s.0 / 4) ≡ s = ap seq (omega arith) in
    simp (kind, number, e)
