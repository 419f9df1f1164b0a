-- The oldest frame on the line reaches the end that acts, within a quiet round. Assumes nothing.
use Rattle.std.specs.Prelude.{if◌then◌else◌, Some, None}
use Prim.Native.Nat.{ℕ, zero, suc, pred, ◌+◌, ◌<◌, ◌≤◌}
use mathlib.Core.Path.{◌≡◌, refl, sym, ap, ◌∙◌}
use mathlib.Core.Logic.{◌≢◌}
use mathlib.Core.Bool.{Bool, true, false}
use mathlib.Core.List.{List, [], ◌∷◌, ◌++◌}
use native.Mathlib.Omega.{arith}
use native.Mathlib.Nat.{le_of_eq}
use borrow.Author.Tests.{eq-eqb}
use lib.ListN.{length}
use Rattle.packets.specs.declared.Packet.{Packet}
use Rattle.packets.specs.Packets.{slot_of}
use Rattle.frames.specs.declared.Frame.{Frame}
use Rattle.frames.specs.declared.Frame.TheVariants as Frame
use Rattle.frames.specs.declared.Message.{Message}
use Rattle.frames.specs.declared.Message.TheVariants as Message
use Rattle.frames.specs.Frames.{frame_answer}
use Rattle.counters.specs.declared.Seq.{Seq}
use Rattle.line.specs.declared.Line.{Line}
use Rattle.line.specs.declared.Slot.{Slot}
use Rattle.line.specs.Line.{slot, on_line, front_of, rest_of}
use Rattle.setup.specs.declared.Setup.{Setup}
use Rattle.setup.specs.Setup.{channels}
use Rattle.delivery.specs.Delivery.{Got}
use Rattle.hearing.specs.Hearing.{hears, acknowledged, again}
use Rattle.sender.specs.declared.Sender.{Sender}
use Rattle.sender.specs.Sender.{Told}
use Rattle.sender.specs.Sender.{credit_at, with_credit}
use Rattle.credits.specs.Credits.{updated}
use Rattle.receiver.specs.declared.Owed.{Owed}
use Rattle.receiver.specs.declared.Owed.TheVariants as Owed
use Rattle.receiver.specs.declared.Reply.{Reply}
use Rattle.receiver.specs.declared.Receiver.{Receiver}
use Rattle.receiver.specs.Receiver.{with_reply, after_accepted, after_duplicate, after_gap, ack_unless_nak}
use Rattle.delivery.specs.Delivery.{stored}
use Rattle.ends.specs.declared.End.{End}
use Rattle.ends.specs.Ends.{Stepped}
use Rattle.ends.specs.Ends.{end, arrive_of, heard}
use Rattle.traffic.specs.Traffic.{a_message}
use Rattle.amounts.specs.Amounts.{channel_for}
use Rattle.amounts.proofs.Given.{channel_below}
use Rattle.direction.specs.Direction.{Past, Direction, getting_one, acking, limiting}
use Rattle.direction.proofs.Arriving.{arrived-rules, lose_keeps, Comes, is-next, is_old, is_ahead, arrive_view}
use Rattle.direction.proofs.Hearing.{back_gone, ack-heard, nak-heard}
use Rattle.direction.proofs.Limits.{update_heard}
use Rattle.direction.proofs.Shaped.{channel_same}
use Rattle.quiet.specs.Quiet.{Live, Calm}
use Rattle.quiet.specs.Burden.{burden, weight, weight_of}
use Rattle.law.proofs.Both.{Both, Fitting}
use Rattle.law.proofs.Reaching.{on_to, rest_fits, frame_in_range}
use Rattle.law.proofs.Turns.{Turn}
use Rattle.quiet.proofs.Live.{live_next, live_old, live_ahead, live_message_gone, live_packet_gone, live_ack-heard, live_nak-heard, live_update_heard}
use Rattle.quiet.proofs.Lightens.{stored-burden, reply-burden, acked-burden, limited-burden}
use Rattle.quiet.proofs.Calm.{calm_no-nak}

-- a Nak becomes owed only where old frames are left
abbrev NoNewNak : ℕ → Receiver → Receiver → Type 0
NoNewNak m r r' = m ≡ 0 → r.reply.owed ≢ Owed.Nak → r'.reply.owed ≢ Owed.Nak

-- an Ack is no Nak; and an Ack unless a Nak is owed is none where none was
ack-no-nak : Owed.Ack ≢ Owed.Nak
ack-no-nak e = let z : ◌≡◌ {A = ℕ} 0 1 = cc in omega arith

unless : (x : Owed) → x ≢ Owed.Nak → ack_unless_nak x ≢ Owed.Nak
unless Owed.Nothing n = ack-no-nak
unless Owed.Ack n = ack-no-nak
unless Owed.Nak n = n

pub record Entered (n m : ℕ) (near far : Setup) (out back : Past) (me it : End) (to from : Line) (x : Stepped) : Type 0 where
  pub says : x.answer ≡ 0
  pub out' : Past
  pub back' : Past
  pub accepted_out : out'.accepted ≡ out.accepted
  pub accepted_back : back'.accepted ≡ back.accepted
  pub taken_out : out'.taken ≡ out.taken
  pub taken_back : back'.taken ≡ back.taken
  pub turn : Turn n (pred m) near far out' back' x.end it (rest_of to) from
  pub no_nak : NoNewNak m me.receiver x.end.receiver
  -- where the frame is no Nak, fewer arrivals are to come
  pub lighter : Calm 0 (on_line to) → burden x.end.sender x.end.receiver + weight_of (on_line (rest_of to)) < burden me.sender me.receiver + weight_of (on_line to)

module _ {n m : ℕ} {near far : Setup} {out back : Past} {me it : End} {to from : Line} (t : Turn n m near far out back me it to from) where
  abbrev b : Both near far out back me it to from
  b = t.both

  -- what is left of both directions without the oldest frame
  turn_rest : (f : Frame) (front : front_of to ≡ Some f) (out' back' : Past) (s : Sender) (r : Receiver)
      → Direction me.setup out' s (on_line from) it.receiver (on_line (rest_of to)) → Live n me.setup out' s (on_line from) it.receiver (on_line (rest_of to))
      → Direction it.setup back' it.sender (on_line (rest_of to)) r (on_line from) → Live (pred m) it.setup back' it.sender (on_line (rest_of to)) r (on_line from)
      → Turn n (pred m) near far out' back' (end me.setup s r) it (rest_of to) from
  turn_rest f front out' back' s r d l e k =
      record {
        both =
            record {
              me_is = b.me_is;
              it_is = b.it_is;
              facing = b.facing;
              to_fits = rest_fits b f front;
              from_fits = b.from_fits;
              sends = d;
              receives = e;
            };
        sends = l;
        receives = k;
      }

  -- the end and the line are lighter, by what the frame weighed
  less : (f : Frame) → front_of to ≡ Some f → (x : ℕ) → x < burden me.sender me.receiver + weight f
      → x + weight_of (on_line (rest_of to)) < burden me.sender me.receiver + weight_of (on_line to)
  less f front x h = rw (on_to b f front) (omega arith)

  -- ---- a packet: it is the next, a duplicate, or, where old frames are left, out of order

  module _ (number : Seq) (p : Packet) (front : front_of to ≡ Some (Frame.Packet number p)) where
    abbrev f : Frame
    f = Frame.Packet number p

    receives : Direction it.setup back it.sender (slot f ∷ on_line (rest_of to)) me.receiver (on_line from)
    receives = rw (on_to b f front) at b.receives

    live : Live m it.setup back it.sender (slot f ∷ on_line (rest_of to)) me.receiver (on_line from)
    live = rw (on_to b f front) at t.receives

    others : Direction me.setup out me.sender (on_line from) it.receiver (on_line (rest_of to))
    others = back_gone (rw (on_to b f front) at b.sends)

    others_live : Live n me.setup out me.sender (on_line from) it.receiver (on_line (rest_of to))
    others_live = live_packet_gone (rw (on_to b f front) at t.sends)

    by_number : {x : Got} → Comes b.facing.there receives x
        → Entered n m near far out back me it to from (record { end = end me.setup me.sender x.receiver; answer = x.answer; detail = x.detail })
    unfolding stored
    by_number (is-next e keeps) =
        let rules = arrived-rules b.facing.there receives in
        let grown = stored-burden me.sender b.receives.r_arrays (channel_below it.setup b.facing.there p rules) p in
        record {
          says = refl;
          out' = out;
          back' = getting_one back;
          accepted_out = refl;
          accepted_back = refl;
          taken_out = refl;
          taken_back = refl;
          turn = turn_rest f front out (getting_one back) me.sender _ others others_live keeps (live_next b.facing.there receives live e);
          no_nak = λ z k. ack-no-nak;
          lighter = λ c. less f front _ (omega (arith, grown));
        }
    by_number (is_old e keeps) =
        record {
          says = refl;
          out' = out;
          back' = back;
          accepted_out = refl;
          accepted_back = refl;
          taken_out = refl;
          taken_back = refl;
          turn = turn_rest f front out back me.sender _ others others_live keeps (live_old b.facing.there receives live e);
          no_nak = λ z k. unless me.receiver.reply.owed k;
          lighter = λ c. less f front _ (omega (arith, reply-burden me.sender me.receiver (after_duplicate me.receiver.reply)));
        }
    by_number (is_ahead e keeps) =
        let l = live_ahead b.facing.there receives live e in
        record {
          says = refl;
          out' = out;
          back' = back;
          accepted_out = refl;
          accepted_back = refl;
          taken_out = refl;
          taken_back = refl;
          turn = turn_rest f front out back me.sender _ others others_live keeps l.1;
          no_nak = λ z k. absurd (l.0 z);
          lighter = λ c. less f front _ (omega (arith, reply-burden me.sender me.receiver (after_gap me.receiver.reply)));
        }

  -- ---- a link message is heard

  module _ (x : Message) (front : front_of to ≡ Some (Frame.Message x)) where
    abbrev g : Frame
    g = Frame.Message x

    others_left : Direction it.setup back it.sender (on_line (rest_of to)) me.receiver (on_line from)
    others_left = lose_keeps (rw (on_to b g front) at b.receives)

    others_left_live : Live (pred m) it.setup back it.sender (on_line (rest_of to)) me.receiver (on_line from)
    others_left_live = live_message_gone (rw (on_to b g front) at t.receives)

    -- the sending half after it
    heard_by : (out' : Past) (y : Told) → y.answer ≡ 0 → out'.accepted ≡ out.accepted → out'.taken ≡ out.taken
        → Direction me.setup out' y.sender (on_line from) it.receiver (on_line (rest_of to))
        → Live n me.setup out' y.sender (on_line from) it.receiver (on_line (rest_of to))
        → (Calm 0 (on_line to) → burden y.sender me.receiver ≤ burden me.sender me.receiver)
        → Entered n m near far out back me it to from (record { end = end me.setup y.sender me.receiver; answer = y.answer; detail = 0 })
    heard_by out' y e a u d l w =
        record {
          says = e;
          out' = out';
          back' = back;
          accepted_out = a;
          accepted_back = refl;
          taken_out = u;
          taken_back = refl;
          turn = turn_rest g front out' back y.sender me.receiver d l others_left others_left_live;
          no_nak = λ z k. k;
          lighter = λ c. less g front _ (omega (arith, w c));
        }

  sends_at : (f : Frame) → front_of to ≡ Some f → Direction me.setup out me.sender (on_line from) it.receiver (slot f ∷ on_line (rest_of to))
  sends_at f front = rw (on_to b f front) at b.sends

  live_at : (f : Frame) → front_of to ≡ Some f → Live n me.setup out me.sender (on_line from) it.receiver (slot f ∷ on_line (rest_of to))
  live_at f front = rw (on_to b f front) at t.sends

  message_turn : (x : Message) (front : front_of to ≡ Some (Frame.Message x)) → Entered n m near far out back me it to from (heard me (Frame.Message x))
  unfolding hears
  message_turn (Message.Ack number) front =
      let i = sends_at (Frame.Message (Message.Ack number)) front in
      let h = ack-heard i in
      rw h.says
      (heard_by (Message.Ack number) front (acking out h.v) (record { sender = acknowledged me.sender number; answer = 0 }) refl refl refl h.keeps
      (live_ack-heard i h (live_at (Frame.Message (Message.Ack number)) front))
      (λ c. acked-burden i h.number_is h.low h.high me.receiver))
  message_turn (Message.Nak number) front =
      let i = sends_at (Frame.Message (Message.Nak number)) front in
      let h = nak-heard i in
      rw h.says
      (heard_by (Message.Nak number) front (acking out h.v) (record { sender = again (acknowledged me.sender number); answer = 0 }) refl refl refl h.keeps
      (live_nak-heard i h (live_at (Frame.Message (Message.Nak number)) front))
      (λ c. absurd (calm_no-nak (rw (on_to b (Frame.Message (Message.Nak number)) front) at c))))
  message_turn (Message.Update channel c x) front =
      let i = sends_at (Frame.Message (Message.Update channel c x)) front in
      let h = update_heard b.facing.here i in
      rw h.says
      (heard_by (Message.Update channel c x) front (limiting out (slot_of channel c) h.is)
      (record { sender = with_credit me.sender (slot_of channel c) (updated (credit_at me.sender (slot_of channel c)) x); answer = 0 }) refl refl refl h.keeps
      (live_update_heard b.facing.here i h (live_at (Frame.Message (Message.Update channel c x)) front))
      (λ z. le_of_eq (limited-burden me.sender me.receiver (slot_of channel c) (updated (credit_at me.sender (slot_of channel c)) x))))

  frame_turn : (f : Frame) (front : front_of to ≡ Some f) → Entered n m near far out back me it to from (heard me f)
  frame_turn (Frame.Packet number p) front =
      rw (← channel_same b.facing p.class) (by_number number p front (arrive_view b.facing.there (receives number p front)))
  frame_turn (Frame.Message x) front = message_turn x front

  pub arrive_turn : (f : Frame) (front : front_of to ≡ Some f) → Entered n m near far out back me it to from (arrive_of me f)
  unfolding arrive_of
  arrive_turn f front = rw (eq-eqb (frame_answer me.setup.n f) 0 (frame_in_range b f front)) (frame_turn f front)
