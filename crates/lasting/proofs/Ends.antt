-- A step of an end in shape leaves it in shape, and what it sends is in range.
-- The arrays of both halves have their lengths, as every value of the code has. Assumes nothing else.
use Rattle.std.specs.Prelude.{Some, None, Option}
use Prim.Native.Nat.{ℕ}
use mathlib.Core.Path.{◌≡◌, refl}
use mathlib.Core.Bool.{true, ◌&&◌}
use borrow.Author.Tests.{eqb-true, le-leb}
use lib.Dec.{leb, eqb}
use Rattle.basics.specs.Each.{each}
use Rattle.basics.proofs.Branches.{by_test, and_left, and_right}
use Rattle.packets.specs.declared.Packet.{Packet}
use Rattle.packets.specs.Packets.{packet_answer}
use Rattle.frames.specs.declared.Frame.{Frame}
use Rattle.frames.specs.declared.Frame.TheVariants as Frame
use Rattle.frames.specs.Frames as F
use Rattle.frames.specs.Frames.{frame_answer, number_in_range}
use Rattle.frames.proofs.Range.{answered}
use Rattle.setup.specs.Setup.{channels, in_range}
use Rattle.sender.specs.declared.Sender.{Sender}
use Rattle.sender.specs.Sender.{queue_at}
use Rattle.sender.specs.Sources.{buffer_bound}
use Rattle.sender.proofs.Arrays as Sending
use Rattle.receiver.specs.declared.Receiver.{Receiver}
use Rattle.receiver.specs.Receiver.{inbox_at}
use Rattle.receipts.proofs.Arrays as Receiving
use Rattle.ends.specs.declared.End.{End}
use Rattle.ends.specs.Ends.{Stepped}
use Rattle.ends.specs.Sends.{Sent}
use Rattle.ends.specs.Ends.{end, heard, submit_of, arrive_of, damage_of, take_at, timer_of, refresh_of}
use Rattle.ends.specs.Sends.{send_of}
use Rattle.shape.specs.Shape.{queue_bound, inbox_bound, within_bounds, all_on, in_place, all_formed, frames_fit, sent_fit, received_fit, numbers_fit, in_shape}
use Rattle.shape.proofs.Rules.{in_shape_parts, in_shape_whole}
use Rattle.views.specs.Views.{Submits, not_accepted, joins, Sends, a_nak, an_ack, an_update, a_replay, a_new, nothing}
use Rattle.views.proofs.Submits.{submit_view}
use Rattle.views.proofs.Sends.{send_view}
use Rattle.lasting.proofs.Sending.{SendingKept, sending_parts, queues_bound, queues_on, queues_formed, sent_fit_lem, numbers_run_lem, replay_inside}
use Rattle.lasting.proofs.SendingSteps.{submitted_kept, timer_kept, replayed_kept, sent_kept, heard_kept, new_frame_fits, replay_frame_fits}
use Rattle.lasting.proofs.Receiving.{ReceivingKept, receiving_parts, inboxes_bound, inboxes_on, inboxes_formed, received_fit_lem, marks_in_use_lem, room_adds_up_lem, cleared_kept, damaged_kept, told_kept, refreshed_kept}
use Rattle.lasting.proofs.ReceivingSteps.{ack-in_range, nak-in_range, update_in_range_lem, arrives_kept, take_kept}

-- ---- an end in shape, as a whole and by its halves

pub record Sound (e : End) : Type 0 where
  pub sending : Sending.Arrays e.sender
  pub receiving : Receiving.Arrays e.receiver
  pub shape : in_shape e ≡ true

pub record Halves (e : End) : Type 0 where
  pub range : in_range e.setup ≡ true
  pub sending : SendingKept e.setup e.sender
  pub receiving : ReceivingKept e.setup e.receiver

pub halves : {e : End} → Sound e → Halves e
unfolding within_bounds in_place frames_fit numbers_fit
halves {e} h =
    let k = in_shape_parts e h.shape in
    let link = e.setup in
    let s = e.sender in
    let r = e.receiver in
    let queues_bound = each channels (λ channel. queue_bound (queue_at s channel)) in
    let buffer_bound_lem = leb s.buffer.len buffer_bound in
    let inboxes_bound = each channels (λ channel. inbox_bound (inbox_at r channel)) in
    let queues_on = each channels (λ channel. all_on link channel (queue_at s channel)) in
    let inboxes_on = each channels (λ channel. all_on link channel (inbox_at r channel)) in
    let queues_formed = each channels (λ channel. all_formed (queue_at s channel)) in
    let buffer_formed = all_formed s.buffer in
    let inboxes_formed = each channels (λ channel. all_formed (inbox_at r channel)) in
    let bounds = and_right queues_bound (buffer_bound_lem && inboxes_bound) k.bounds in
    let frames = and_right queues_formed (buffer_formed && inboxes_formed) k.frames in
    record {
      range = k.setup;
      sending =
          sending_parts link s h.sending
          (and_left queues_bound (buffer_bound_lem && inboxes_bound) k.bounds)
          (and_left buffer_bound_lem inboxes_bound bounds)
          (and_left queues_on inboxes_on k.place)
          (and_left queues_formed (buffer_formed && inboxes_formed) k.frames)
          (and_left buffer_formed inboxes_formed frames)
          (and_left (sent_fit s) (received_fit r) k.numbers)
          k.run
          k.replay;
      receiving =
          receiving_parts link r h.receiving
          (and_right buffer_bound_lem inboxes_bound bounds)
          (and_right queues_on inboxes_on k.place)
          (and_right buffer_formed inboxes_formed frames)
          (and_right (sent_fit s) (received_fit r) k.numbers)
          k.marks
          k.room;
    }

pub whole : {e : End} → Halves e → Sound e
unfolding within_bounds in_place frames_fit numbers_fit
whole {e} h =
    let s = h.sending in
    let r = h.receiving in
    record {
      sending = s.arrays;
      receiving = r.arrays;
      shape =
          in_shape_whole e
          record {
            setup = h.range;
            bounds = rw (queues_bound s, le-leb _ _ s.buffer_bound_lem) (inboxes_bound r);
            place = rw (queues_on s) (inboxes_on r);
            frames = rw (queues_formed s, s.buffer_formed) (inboxes_formed r);
            numbers = rw (sent_fit_lem s) (received_fit_lem r);
            run = numbers_run_lem s;
            replay = replay_inside s;
            marks = marks_in_use_lem r;
            room = room_adds_up_lem r;
          };
    }

-- ---- what a step leaves

pub record Lasts (e new : End) : Type 0 where
  pub sound : Sound new
  pub same : new.setup ≡ e.setup

module _ {e : End} (h : Halves e) where
  stays : Lasts e e
  stays = record { sound = whole h; same = refl }

  by_sender_lem : {s : Sender} → SendingKept e.setup s → Lasts e (end e.setup s e.receiver)
  by_sender_lem k = record { sound = whole record { range = h.range; sending = k; receiving = h.receiving }; same = refl }

  by_receiver_lem : {r : Receiver} → ReceivingKept e.setup r → Lasts e (end e.setup e.sender r)
  by_receiver_lem k = record { sound = whole record { range = h.range; sending = h.sending; receiving = k }; same = refl }

  submits : {p : Packet} {o : Stepped} → Submits e p o → Lasts e o.end
  submits (not_accepted n) = stays
  submits {p} (joins ok much few) = by_sender_lem (submitted_kept h.sending _ p ok refl few)

  sends : {o : Sent} → Sends e o → Lasts e o.end
  sends (a_nak o) = by_receiver_lem (cleared_kept h.receiving)
  sends (an_ack o) = by_receiver_lem (cleared_kept h.receiving)
  sends (an_update i o m) = by_receiver_lem (told_kept h.receiving i)
  sends (a_replay i o m r) = by_sender_lem (replayed_kept h.sending i)
  sends (a_new channel place o m r new) = by_sender_lem (sent_kept h.sending channel place new)
  sends (nothing o m r none) = stays

  -- the frame, if there is one, is in range
  abbrev FrontFits : Option Frame → Type 0
  FrontFits (Some f) = frame_answer e.setup.n f ≡ 0
  FrontFits None = Unit

  front_fits : {o : Sent} → Sends e o → FrontFits o.frame
  front_fits (a_nak o) = nak-in_range e.setup.n e.receiver.reply.next_receive
  front_fits (an_ack o) = ack-in_range e.setup.n e.receiver.reply.next_receive
  front_fits (an_update i o m) = update_in_range_lem h.receiving i m
  front_fits (a_replay i o m r) = replay_frame_fits h.sending e.setup.n i r
  front_fits (a_new channel place o m r new) = new_frame_fits h.sending channel place new e.setup.n
  front_fits (nothing o m r none) = tt

  hears : (f : Frame) → frame_answer e.setup.n f ≡ 0 → Lasts e (heard e f).end
  unfolding F.in_range
  hears (Frame.Packet number p) ok =
      let both = answered e.setup.n (Frame.Packet number p) ok in
      by_receiver_lem
      (arrives_kept h.range h.receiving number p (eqb-true (packet_answer p) 0 (and_right (number_in_range number) (eqb (packet_answer p) 0) both)))
  hears (Frame.Message m) ok = by_sender_lem (heard_kept h.sending e.setup.n m ok)

-- ---- the steps of an end

module _ {e : End} (sound : Sound e) where
  pub submit_lasts : (p : Packet) → Lasts e (submit_of e p).end
  submit_lasts p = submits (halves sound) (submit_view e p)

  pub send_lasts : Lasts e (send_of e).end
  send_lasts = sends (halves sound) (send_view e)

  pub sent_fits : (f : Frame) → (send_of e).frame ≡ Some f → frame_answer e.setup.n f ≡ 0
  sent_fits f is = rw is at (front_fits (halves sound) (send_view e))

  pub arrive_lasts : (f : Frame) → Lasts e (arrive_of e f).end
  unfolding arrive_of
  arrive_lasts f =
      by_test (λ (o : Stepped). Lasts e o.end) (eqb (frame_answer e.setup.n f) 0)
      (λ t. hears (halves sound) f (eqb-true (frame_answer e.setup.n f) 0 t))
      (λ t. stays (halves sound))

  pub damage_lasts : (f : Frame) → Lasts e (damage_of e f).end
  unfolding damage_of
  damage_lasts (Frame.Packet number p) = by_receiver_lem (halves sound) (damaged_kept (halves sound).receiving)
  damage_lasts (Frame.Message m) = stays (halves sound)

  pub take_lasts : (channel category : ℕ) → Lasts e (take_at e channel category).end
  take_lasts channel category = let h = halves sound in by_receiver_lem h (take_kept h.range h.receiving channel category)

  pub timer_lasts : Lasts e (timer_of e).end
  timer_lasts = by_sender_lem (halves sound) (timer_kept (halves sound).sending)

  pub refresh_lasts : Lasts e (refresh_of e).end
  unfolding refresh_of
  refresh_lasts = let h = halves sound in by_receiver_lem h (refreshed_kept h.receiving h.range)
