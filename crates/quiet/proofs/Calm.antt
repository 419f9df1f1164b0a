-- Laws of a line without a Nak past its first frames: one frame more at its end, one less at its front.
-- Assumes nothing.
use Prim.Native.Nat.{ℕ, pred, ◌≤◌}
use mathlib.Core.List.{List, [], ◌∷◌, ◌++◌}
use native.Mathlib.Omega.{arith}
use lib.ListN.{length}
use Rattle.counters.specs.declared.Counts.{Counts}
use Rattle.counters.specs.declared.Seq.{Seq}
use Rattle.packets.specs.declared.Packet.{Packet}
use Rattle.packets.specs.declared.Category.{Category}
use Rattle.frames.specs.declared.Frame.TheVariants as Frame
use Rattle.frames.specs.declared.Message.TheVariants as Message
use Rattle.line.specs.declared.Slot.{Slot}
use Rattle.line.specs.Line.{slot}
use Rattle.traffic.specs.Traffic.{a_message}
use Rattle.quiet.specs.Quiet.{Calm, calm_end, calm_some, calm_packet, calm_ack, calm_update}

-- ---- how many frames may be Naks

pub calm_few : {m : ℕ} {l : List Slot} → Calm m l → m ≤ length l
calm_few calm_end = omega arith
calm_few (calm_some o) = let h = calm_few o in omega arith
calm_few (calm_packet o) = omega arith
calm_few (calm_ack o) = omega arith
calm_few (calm_update o) = omega arith

pub calm_all : (l : List Slot) → Calm (length l) l
calm_all [] = calm_end
calm_all (x ∷ l) = calm_some (calm_all l)

-- ---- a frame goes onto the line

calm_join : {m : ℕ} {l k : List Slot} → Calm m l → Calm 0 k → Calm m (l ++ k)
calm_join calm_end y = y
calm_join (calm_some o) y = calm_some (calm_join o y)
calm_join (calm_packet o) y = calm_packet (calm_join o y)
calm_join (calm_ack o) y = calm_ack (calm_join o y)
calm_join (calm_update o) y = calm_update (calm_join o y)

module _ {m : ℕ} {l : List Slot} where
  pub calm_ack-sent : (number : Seq) → Calm m l → Calm m (l ++ (a_message (Message.Ack number) ∷ []))
  calm_ack-sent number o = calm_join o (calm_ack calm_end)

  pub calm_update-sent : (channel : ℕ) (c : Category) (x : Counts) → Calm m l → Calm m (l ++ (a_message (Message.Update channel c x) ∷ []))
  calm_update-sent channel c x o = calm_join o (calm_update calm_end)

  pub calm_packet-sent : (number : Seq) (p : Packet) → Calm m l → Calm m (l ++ (slot (Frame.Packet number p) ∷ []))
  calm_packet-sent number p o = calm_join o (calm_packet calm_end)

-- ---- the oldest frame leaves

pub calm_gone : {m : ℕ} {x : Slot} {l : List Slot} → Calm m (x ∷ l) → Calm (pred m) l
calm_gone (calm_some o) = o
calm_gone (calm_packet o) = o
calm_gone (calm_ack o) = o
calm_gone (calm_update o) = o

-- a Nak is one of the first frames
pub calm_no-nak : {number : Seq} {l : List Slot} → Calm 0 (a_message (Message.Nak number) ∷ l) → ⊥
calm_no-nak o = elim o [ ]
