-- The oldest frame on the line reaches the end whole or damaged, or is lost: it is never refused, and both directions are kept.
-- Assumes nothing.
use Rattle.std.specs.Prelude.{Some, None}
use Prim.Native.Nat.{◌<◌}
use mathlib.Core.Path.{◌≡◌, refl, ap, ◌∙◌}
use mathlib.Core.List.{[], ◌∷◌}
use native.Mathlib.Omega.{arith}
use borrow.Author.Tests.{eq-eqb}
use lib.Dec.{leb}
use lib.ListN.{length}
use Rattle.basics.specs.Lists.{all}
use Rattle.basics.proofs.Branches.{and_right}
use Rattle.packets.specs.declared.Packet.{Packet}
use Rattle.frames.specs.declared.Frame.{Frame}
use Rattle.frames.specs.declared.Frame.TheVariants as Frame
use Rattle.frames.specs.declared.Message.{Message}
use Rattle.frames.specs.Frames.{frame_answer}
use Rattle.line.specs.declared.Line.{Line}
use Rattle.line.specs.Line.{slot, on_line, front_of, rest_of}
use Rattle.line.proofs.OnLine.{front-found, length_rest, len_rest, length-on}
use Rattle.setup.specs.declared.Setup.{Setup}
use Rattle.delivery.specs.Delivery.{Got}
use Rattle.sender.specs.declared.Sender.{Sender}
use Rattle.receiver.specs.declared.Receiver.{Receiver}
use Rattle.ends.specs.declared.End.{End}
use Rattle.ends.specs.Ends.{Stepped}
use Rattle.ends.specs.Ends.{end, arrive_of, damage_of, heard}
use Rattle.pairs.specs.Steps.{line_fits, slot_fits}
use Rattle.traffic.proofs.Range.{frame_fits}
use Rattle.direction.specs.Direction.{Past, Direction, getting_one}
use Rattle.direction.proofs.Arriving.{lose_keeps, damage-keeps, Comes, is-next, is_old, is_ahead, arrive_view}
use Rattle.direction.proofs.Hearing.{back_gone, hearing, message_heard}
use Rattle.direction.proofs.Shaped.{channel_same}
use Rattle.law.proofs.Both.{Both, Fitting, both-with, Next, nothing_new, line_fits_lem}

module _ {near far : Setup} {out back : Past} {me it : End} {to from : Line} (b : Both near far out back me it to from) (f : Frame) (front : front_of to ≡ Some f) where
  pub on_to : on_line to ≡ slot f ∷ on_line (rest_of to)
  on_to = front-found to b.to_fits.long f b.to_fits.room front

  pub rest_fits : Fitting (rest_of to)
  rest_fits =
      let some : 0 < to.len = omega (arith, ap length on_to, length-on to b.to_fits.long b.to_fits.room) in
      record {
        long = length_rest to b.to_fits.long ∙ b.to_fits.long;
        room = omega (arith, len_rest to b.to_fits.long some b.to_fits.room, b.to_fits.room);
      }

  -- the two directions with that frame at the front
  sends : Direction me.setup out me.sender (on_line from) it.receiver (slot f ∷ on_line (rest_of to))
  sends = rw on_to at b.sends

  receives : Direction it.setup back it.sender (slot f ∷ on_line (rest_of to)) me.receiver (on_line from)
  receives = rw on_to at b.receives

  reached_by : (out' back' : Past) (s : Sender) (r : Receiver) → out'.accepted ≡ out.accepted → back'.accepted ≡ back.accepted
      → back'.taken ≡ back.taken → out'.taken ≡ out.taken
      → Direction me.setup out' s (on_line from) it.receiver (on_line (rest_of to))
      → Direction it.setup back' it.sender (on_line (rest_of to)) r (on_line from)
      → Next near far out back [] [] (end me.setup s r) it (rest_of to) from
  reached_by out' back' s r a c t u x y =
      nothing_new out' back' a c t u (both-with b rest_fits b.from_fits x y)

  -- the sending half hears nothing of it
  received : (back' : Past) (r : Receiver) → back'.accepted ≡ back.accepted → back'.taken ≡ back.taken
      → Direction it.setup back' it.sender (on_line (rest_of to)) r (on_line from)
      → Next near far out back [] [] (end me.setup me.sender r) it (rest_of to) from
  received back' r a t y = reached_by out back' me.sender r refl a t refl (back_gone sends) y

  -- ---- Lose

  pub lose_next : Next near far out back [] [] me it (rest_of to) from
  lose_next = received back me.receiver refl refl (lose_keeps receives)

  -- ---- Damage and Arrive are answered with 0

  pub record Reached (x : Stepped) : Type 0 where
    pub says : x.answer ≡ 0
    pub next : Next near far out back [] [] x.end it (rest_of to) from

-- ---- Damage: a packet may make a Nak owed, a link message is dropped

module _ {near far : Setup} {out back : Past} {me it : End} {to from : Line} (b : Both near far out back me it to from) where
  pub damage-next : (f : Frame) (front : front_of to ≡ Some f) → Reached b f front (damage_of me f)
  unfolding damage_of
  damage-next (Frame.Packet number p) front =
      record { says = refl; next = received b (Frame.Packet number p) front back _ refl refl (damage-keeps (receives b (Frame.Packet number p) front)) }
  damage-next (Frame.Message m) front = record { says = refl; next = lose_next b (Frame.Message m) front }

  -- ---- Arrive

  -- 27 refuses no frame on the line
  pub frame_in_range : (f : Frame) → front_of to ≡ Some f → frame_answer me.setup.n f ≡ 0
  unfolding line_fits
  frame_in_range f front =
      frame_fits me.setup.n f (on_line (rest_of to))
      (rw (on_to b f front) at (and_right (leb to.len 16) (all (slot_fits me.setup.n) (on_line to)) (line_fits_lem b)))

  arrives_whole : (f : Frame) (front : front_of to ≡ Some f) → Reached b f front (heard me f)
  arrives_whole (Frame.Packet number p) front =
      rw (← channel_same b.facing p.class)
      (by_number (arrive_view b.facing.there (receives b (Frame.Packet number p) front)))
    where
      by_number : {x : Got} → Comes b.facing.there (receives b (Frame.Packet number p) front) x
          → Reached b (Frame.Packet number p) front (record { end = end me.setup me.sender x.receiver; answer = x.answer; detail = x.detail })
      by_number (is-next e keeps) = record { says = refl; next = received b (Frame.Packet number p) front (getting_one back) _ refl refl keeps }
      by_number (is_old e keeps) = record { says = refl; next = received b (Frame.Packet number p) front back _ refl refl keeps }
      by_number (is_ahead e keeps) = record { says = refl; next = received b (Frame.Packet number p) front back _ refl refl keeps }
  arrives_whole (Frame.Message m) front =
      let h = message_heard b.facing.here m (sends b (Frame.Message m) front) in
      record {
        says = h.says;
        next = reached_by b (Frame.Message m) front (hearing out h.acked h.limit) back _ _ refl refl refl refl h.keeps (lose_keeps (receives b (Frame.Message m) front));
      }

  pub arrive-next : (f : Frame) (front : front_of to ≡ Some f) → Reached b f front (arrive_of me f)
  unfolding arrive_of
  arrive-next f front = rw (eq-eqb (frame_answer me.setup.n f) 0 (frame_in_range f front)) (arrives_whole f front)
