-- 27 never: every frame on a line is in range. The packets are of one direction, the link messages of the other.
-- Assumes nothing.
use Prim.Native.Nat.{ℕ, ◌+◌, ◌%◌}
use mathlib.Core.Path.{◌≡◌, refl}
use mathlib.Core.Bool.{true}
use mathlib.Core.List.{List, ◌∷◌}
use native.Mathlib.Omega.{arith}
use lib.Dec.{ltb, eqb}
use borrow.Author.Tests.{lt-ltb, eqb-true}
use Rattle.basics.specs.Lists.{all}
use Rattle.basics.proofs.All.{all-at}
use Rattle.basics.proofs.Branches.{and_left}
use Rattle.packets.specs.declared.Packet.{Packet}
use Rattle.packets.specs.Packets.{packet_answer}
use Rattle.frames.specs.declared.Frame.{Frame}
use Rattle.frames.specs.Frames.{in_range, frame_answer}
use Rattle.store.specs.Store.{no_packet}
use Rattle.line.specs.declared.Slot.{Slot}
use Rattle.line.specs.Line.{slot}
use Rattle.amounts.specs.Amounts.{Amount, wrapped}
use Rattle.traffic.specs.Traffic.{Forth, forth_end, forth_packet, forth_message}
use Rattle.traffic.specs.Traffic.{Acks, acks_ack, acks_nak, acks_update, acks_packet}
use Rattle.traffic.specs.Traffic.{Updates, updates_update, updates_ack, updates_nak, updates_packet}

-- a number taken modulo 4,096 is in range
pub wraps : (t : ℕ) → ltb (t % 4096) 4096 ≡ true
wraps t = lt-ltb (t % 4096) 4096 (omega arith)

pub frames_fit_lem : {sent : List Packet} {b a r n : ℕ} {lo hi : ℕ → Amount} {l : List Slot} → all (λ p. eqb (packet_answer p) 0) sent ≡ true
    → Forth sent b l → Acks a r l → Updates n lo hi l → all (λ x. eqb (frame_answer n x.frame) 0) l ≡ true
unfolding in_range wrapped
frames_fit_lem e forth_end k u = refl
frames_fit_lem {sent} e (forth_packet t h s o) (acks_packet k) (updates_packet u) =
    rw (wraps t, all-at (λ p. eqb (packet_answer p) 0) sent t no_packet h e) (frames_fit_lem e o k u)
frames_fit_lem e (forth_message m o) (acks_ack v h k) (updates_ack u) = rw (wraps (v + 4095)) (frames_fit_lem e o k u)
frames_fit_lem e (forth_message m o) (acks_nak v h k) (updates_nak u) = rw (wraps (v + 4095)) (frames_fit_lem e o k u)
frames_fit_lem {n} e (forth_message m o) (acks_update k) (updates_update channel c x below low high u) =
    rw (lt-ltb channel n below, wraps x.d) (frames_fit_lem e o k u)

-- and so is the oldest
pub frame_fits : (n : ℕ) (f : Frame) (l : List Slot) → all (λ x. eqb (frame_answer n x.frame) 0) (slot f ∷ l) ≡ true → frame_answer n f ≡ 0
frame_fits n f l e =
    eqb-true (frame_answer n f) 0 (and_left (eqb (frame_answer n f) 0) (all (λ x. eqb (frame_answer n x.frame) 0) l) e)
