-- Both directions within a quiet round, and what Send makes of them: n frames on the line from the end that acts and m on the line to it are old.
-- Assumes nothing.
use Rattle.std.specs.Prelude.{Some, None, Option}
use Prim.Native.Nat.{ℕ, ◌+◌, ◌<◌, ◌≤◌}
use mathlib.Core.Path.{◌≡◌, refl, sym, ap, ◌∙◌}
use mathlib.Core.Logic.{◌≢◌}
use mathlib.Core.Bool.{Bool, true, false}
use mathlib.Core.List.{List, [], ◌∷◌, ◌++◌}
use native.Mathlib.Omega.{arith}
use lib.ListN.{length}
use Rattle.counters.specs.Counters.{before_of}
use Rattle.frames.specs.declared.Frame.{Frame}
use Rattle.frames.specs.declared.Frame.TheVariants as Frame
use Rattle.frames.specs.declared.Message.TheVariants as Message
use Rattle.line.specs.declared.Line.{Line}
use Rattle.line.specs.declared.Slot.{Slot}
use Rattle.line.specs.Line.{slot, blank, on_line, put, is_full}
use Rattle.line.proofs.OnLine.{on-put, len_put, length-put, not_full}
use Rattle.setup.specs.declared.Setup.{Setup}
use Rattle.sender.specs.declared.Sender.{Sender}
use Rattle.sender.specs.Sources.{new_packet}
use Rattle.receiver.specs.declared.Owed.{Owed}
use Rattle.receiver.specs.declared.Owed.TheVariants as Owed
use Rattle.receiver.specs.declared.Receiver.{Receiver}
use Rattle.receiver.specs.Receiver.{cleared, told, update_frame, channel_in, category_in, room_at}
use Rattle.ends.specs.declared.End.{End}
use Rattle.ends.specs.Sends.{Sent}
use Rattle.ends.specs.Ends.{end}
use Rattle.views.specs.Views.{Sends, a_nak, an_ack, an_update, a_replay, a_new, nothing}
use Rattle.direction.specs.Direction.{Past, Direction, sending_one}
use Rattle.direction.proofs.Sending.{new_keeps, again-keeps, forth_passed}
use Rattle.direction.proofs.Answering.{ack-keeps, nak-keeps, update_keeps, back_passed}
use Rattle.quiet.specs.Quiet.{Live, Calm}
use Rattle.quiet.specs.Burden.{burden, weight, owing}
use Rattle.law.proofs.Both.{Both, Fitting, both_swap}
use Rattle.quiet.proofs.Live.{live_new, live_again, live_passed, live_ack, live_nak, live_update, live_back}
use Rattle.quiet.proofs.Burden.{new_burden, again-burden, owed_burden, update_burden}
use Rattle.quiet.proofs.Calm.{calm_ack-sent, calm_update-sent, calm_packet-sent}

pub record Turn (n m : ℕ) (near far : Setup) (out back : Past) (me it : End) (to from : Line) : Type 0 where
  pub both : Both near far out back me it to from
  pub sends : Live n me.setup out me.sender (on_line from) it.receiver (on_line to)
  pub receives : Live m it.setup back it.sender (on_line to) me.receiver (on_line from)

pub turn_swap : {n m : ℕ} {near far : Setup} {out back : Past} {me it : End} {to from : Line} → Turn n m near far out back me it to from → Turn m n far near back out it me from to
turn_swap t = record { both = both_swap t.both; sends = t.receives; receives = t.sends }

-- ---- Send: the frame f leaves `me`, which is then `me'`

pub record Left (n m : ℕ) (near far : Setup) (out back : Past) (me it : End) (to from : Line) (me' : End) (f : Frame) : Type 0 where
  pub out' : Past
  pub accepted_same : out'.accepted ≡ out.accepted
  pub taken_same : out'.taken ≡ out.taken
  pub turn : Turn n m near far out' back me' it to (put from f)
  pub lighter : burden me'.sender me'.receiver + weight f ≡ burden me.sender me.receiver
  pub owes_none : me'.receiver.reply.owed ≡ Owed.Nothing
  pub calm : (k : ℕ) → me.receiver.reply.owed ≢ Owed.Nak → Calm k (on_line from) → Calm k (on_line from ++ (slot f ∷ []))

abbrev frame_in : Option Frame → Frame
frame_in (Some f) = f
frame_in None = blank.frame

nak_owed : {A : Type 0} {x : Owed} → x ≡ Owed.Nak → x ≢ Owed.Nak → A
nak_owed e n = absurd (n e)

module _ {n m : ℕ} {near far : Setup} {out back : Past} {me it : End} {to from : Line} (t : Turn n m near far out back me it to from) (free : is_full from ≡ false) where
  few : from.len < 16
  few = not_full from t.both.from_fits.long free

  turn_by : (f : Frame) (out' : Past) (s : Sender) (r : Receiver)
      → Direction me.setup out' s (on_line from ++ (slot f ∷ [])) it.receiver (on_line to) → Live n me.setup out' s (on_line from ++ (slot f ∷ [])) it.receiver (on_line to)
      → Direction it.setup back it.sender (on_line to) r (on_line from ++ (slot f ∷ [])) → Live m it.setup back it.sender (on_line to) r (on_line from ++ (slot f ∷ []))
      → Turn n m near far out' back (end me.setup s r) it to (put from f)
  turn_by f out' s r d l e k =
      let on = on-put from t.both.from_fits.long f few in
      record {
        both =
            record {
              me_is = t.both.me_is;
              it_is = t.both.it_is;
              facing = t.both.facing;
              to_fits = t.both.to_fits;
              from_fits =
                  record {
                    long = length-put from t.both.from_fits.long f ∙ t.both.from_fits.long;
                    room = omega (arith, len_put from t.both.from_fits.long f few, few);
                  };
              sends = rw on d;
              receives = rw on e;
            };
        sends = rw on l;
        receives = rw on k;
      }

  pub send_turn : {x : Sent} → Sends me x → (f : Frame) → x.frame ≡ Some f → Left n m near far out back me it to from x.end f
  unfolding update_frame cleared told
  send_turn (a_nak owed) f e =
      let x = before_of me.receiver.reply.next_receive in
      rw (← ap frame_in e)
      record {
        out' = out;
        accepted_same = refl;
        taken_same = refl;
        turn =
            turn_by _ out _ _ (forth_passed t.both.sends (Message.Nak x)) (live_passed (Message.Nak x) t.sends)
            (nak-keeps t.both.receives) (live_nak t.both.receives t.receives);
        lighter = owed_burden me.sender me.receiver (ap owing owed);
        owes_none = refl;
        calm = λ k n c. nak_owed owed n;
      }
  send_turn (an_ack owed) f e =
      let x = before_of me.receiver.reply.next_receive in
      rw (← ap frame_in e)
      record {
        out' = out;
        accepted_same = refl;
        taken_same = refl;
        turn =
            turn_by _ out _ _ (forth_passed t.both.sends (Message.Ack x)) (live_passed (Message.Ack x) t.sends)
            (ack-keeps t.both.receives) (live_ack t.both.receives t.receives);
        lighter = owed_burden me.sender me.receiver (ap owing owed);
        owes_none = refl;
        calm = λ k n c. calm_ack-sent x c;
      }
  send_turn (an_update j none first) f e =
      let m = Message.Update (channel_in j) (category_in j) (room_at me.receiver j).allocated in
      rw (← ap frame_in e)
      record {
        out' = out;
        accepted_same = refl;
        taken_same = refl;
        turn =
            turn_by _ out _ _ (forth_passed t.both.sends m) (live_passed m t.sends)
            (update_keeps t.both.receives j first) (live_update t.both.receives j first t.receives);
        lighter = update_burden me.sender me.receiver j first;
        owes_none = none;
        calm = λ k n c. calm_update-sent _ _ _ c;
      }
  send_turn (a_replay j none unmarked at) f e =
      rw (← ap frame_in e)
      record {
        out' = out;
        accepted_same = refl;
        taken_same = refl;
        turn =
            turn_by _ out _ _ (again-keeps t.both.sends j at) (live_again t.both.sends j at t.sends)
            (back_passed t.both.receives _ _) (live_back _ _ t.receives);
        lighter = again-burden t.both.sends j at me.receiver;
        owes_none = none;
        calm = λ k n c. calm_packet-sent _ _ c;
      }
  send_turn (a_new channel place none unmarked rests new) f e =
      rw (← ap frame_in e)
      record {
        out' = sending_one out (new_packet me.sender channel place);
        accepted_same = refl;
        taken_same = refl;
        turn =
            turn_by _ (sending_one out (new_packet me.sender channel place)) _ _ (new_keeps t.both.facing.here t.both.sends channel place new rests)
            (live_new t.both.sends channel place new rests t.sends) (back_passed t.both.receives _ _) (live_back _ _ t.receives);
        lighter = new_burden t.both.sends channel place new rests me.receiver;
        owes_none = none;
        calm = λ k n c. calm_packet-sent _ _ c;
      }
  send_turn (nothing none unmarked rests new) f e = let z : ◌≡◌ {A = ℕ} 0 1 = cc in absurd (omega arith)
