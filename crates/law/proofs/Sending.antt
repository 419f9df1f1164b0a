-- Send keeps both directions, whichever source the frame comes from.
-- Assumes nothing.
use Rattle.std.specs.Prelude.{Some, None, Option}
use Prim.Native.Nat.{ℕ, ◌<◌}
use mathlib.Core.Path.{◌≡◌, refl, ap, ◌∙◌}
use mathlib.Core.Bool.{false}
use mathlib.Core.List.{[], ◌∷◌, ◌++◌}
use native.Mathlib.Omega.{arith}
use Rattle.frames.specs.declared.Frame.{Frame}
use Rattle.frames.specs.declared.Message.TheVariants as Message
use Rattle.counters.specs.Counters.{before_of}
use Rattle.line.specs.declared.Line.{Line}
use Rattle.line.specs.Line.{slot, blank, on_line, put, is_full}
use Rattle.line.proofs.OnLine.{on-put, len_put, length-put, not_full}
use Rattle.sender.specs.declared.Sender.{Sender}
use Rattle.sender.specs.Sources.{new_packet}
use Rattle.receiver.specs.declared.Receiver.{Receiver}
use Rattle.receiver.specs.Receiver.{update_frame, channel_in, category_in, room_at}
use Rattle.ends.specs.declared.End.{End}
use Rattle.ends.specs.Sends.{Sent}
use Rattle.ends.specs.Ends.{end}
use Rattle.views.specs.Views.{Sends, a_nak, an_ack, an_update, a_replay, a_new, nothing}
use Rattle.setup.specs.declared.Setup.{Setup}
use Rattle.direction.specs.Direction.{Past, Direction, sending_one}
use Rattle.direction.proofs.Sending.{new_keeps, again-keeps, forth_passed}
use Rattle.direction.proofs.Answering.{ack-keeps, nak-keeps, update_keeps, back_passed}
use Rattle.law.proofs.Both.{Both, Fitting, both-with, Next, nothing_new}

-- a frame that was found is one frame
abbrev frame_in : Option Frame → Frame
frame_in (Some f) = f
frame_in None = blank.frame

module _ {near far : Setup} {out back : Past} {me it : End} {to from : Line} (b : Both near far out back me it to from) (free : is_full from ≡ false) where
  few : from.len < 16
  few = not_full from b.from_fits.long free

  -- one frame more on the line from it
  more : (f : Frame) → Fitting (put from f)
  more f =
      record {
        long = length-put from b.from_fits.long f ∙ b.from_fits.long;
        room = omega (arith, len_put from b.from_fits.long f few, few);
      }

  on-more : (f : Frame) → on_line (put from f) ≡ on_line from ++ (slot f ∷ [])
  on-more f = on-put from b.from_fits.long f few

  -- the end after it, by its two halves
  sent_by : (f : Frame) (out' : Past) (s : Sender) (r : Receiver) → out'.accepted ≡ out.accepted → out'.taken ≡ out.taken
      → Direction me.setup out' s (on_line from ++ (slot f ∷ [])) it.receiver (on_line to)
      → Direction it.setup back it.sender (on_line to) r (on_line from ++ (slot f ∷ []))
      → Next near far out back [] [] (end me.setup s r) it to (put from f)
  sent_by f out' s r a t sends receives =
      nothing_new out' back a refl refl t (both-with b b.to_fits (more f) (rw (on-more f) sends) (rw (on-more f) receives))

  -- the frame that was found
  pub send-next : {x : Sent} → Sends me x → (f : Frame) → x.frame ≡ Some f → Next near far out back [] [] x.end it to (put from f)
  unfolding update_frame
  send-next (a_nak owed) f e =
      rw (← ap frame_in e)
      (sent_by _ out _ _ refl refl (forth_passed b.sends (Message.Nak (before_of me.receiver.reply.next_receive))) (nak-keeps b.receives))
  send-next (an_ack owed) f e =
      rw (← ap frame_in e)
      (sent_by _ out _ _ refl refl (forth_passed b.sends (Message.Ack (before_of me.receiver.reply.next_receive))) (ack-keeps b.receives))
  send-next (an_update k none first) f e =
      rw (← ap frame_in e)
      (sent_by _ out _ _ refl refl
      (forth_passed b.sends (Message.Update (channel_in k) (category_in k) (room_at me.receiver k).allocated))
      (update_keeps b.receives k first))
  send-next (a_replay k none unmarked at) f e =
      rw (← ap frame_in e) (sent_by _ out _ _ refl refl (again-keeps b.sends k at) (back_passed b.receives _ _))
  send-next (a_new channel place none unmarked rests new) f e =
      rw (← ap frame_in e)
      (sent_by _ (sending_one out (new_packet me.sender channel place)) _ _ refl refl (new_keeps b.facing.here b.sends channel place new rests)
      (back_passed b.receives _ _))
  send-next (nothing none unmarked rests new) f e = let z : ◌≡◌ {A = ℕ} 0 1 = cc in absurd (omega arith)
