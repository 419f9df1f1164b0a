-- What each event of a quiet round makes of a direction: no gap, what the sender will be told, and which limits it will have, together.
-- Assumes nothing.
use Rattle.std.specs.Prelude.{if◌then◌else◌, Some, None}
use Prim.Native.Nat.{ℕ, zero, suc, pred, ◌+◌, ◌≤◌, ◌<◌}
use mathlib.Core.Path.{◌≡◌, refl, sym, ap, ◌∙◌}
use mathlib.Core.Logic.{◌≢◌}
use mathlib.Core.Bool.{Bool, true, false}
use mathlib.Core.List.{List, [], ◌∷◌, ◌++◌}
use native.Mathlib.Omega.{arith}
use lib.ListN.{length}
use Rattle.counters.specs.declared.Counts.{Counts}
use Rattle.counters.specs.declared.Seq.{Seq}
use Rattle.counters.specs.Counters.{seq, before_of}
use Rattle.packets.specs.declared.Packet.{Packet}
use Rattle.packets.specs.declared.Category.{Category}
use Rattle.packets.specs.Packets.{slot_of}
use Rattle.credits.specs.Credits.{updated}
use Rattle.frames.specs.declared.Frame.TheVariants as Frame
use Rattle.frames.specs.declared.Message.{Message}
use Rattle.frames.specs.declared.Message.TheVariants as Message
use Rattle.line.specs.declared.Slot.{Slot}
use Rattle.line.specs.Line.{slot}
use Rattle.setup.specs.declared.Setup.{Setup}
use Rattle.setup.specs.Setup.{channels, in_range}
use Rattle.sender.specs.declared.Sender.{Sender}
use Rattle.sender.specs.Sender.{credit_at, with_credit, with_replay, begun}
use Rattle.sender.specs.Sources.{replay_frame, replayed, new_of, new_packet, new_frame, sent_new}
use Rattle.hearing.specs.Hearing.{acknowledged, again}
use Rattle.receiver.specs.declared.Receiver.{Receiver}
use Rattle.receiver.specs.declared.Owed.TheVariants as Owed
use Rattle.receiver.specs.Receiver.{cleared, first_marked, update_frame, told, refreshed, with_reply, after_duplicate, after_gap}
use Rattle.delivery.specs.Delivery.{stored}
use Rattle.amounts.specs.Amounts.{Amount, Fits, wrapped, channel_for, allowed}
use Rattle.traffic.specs.Traffic.{a_message, up_to}
use Rattle.direction.specs.Direction.{Past, Direction, sending_one, getting_one, acking, limiting}
use Rattle.direction.proofs.Arriving.{o, arrived-rules}
use Rattle.direction.proofs.Hearing.{Released}
use Rattle.direction.proofs.Limits.{Limited}
use Rattle.amounts.proofs.Given.{channel_below}
use Rattle.setup.proofs.Range.{few-channels}
use Rattle.quiet.specs.Quiet.{Live}
use Rattle.quiet.proofs.Fresh.{fresh-few, fresh-other, fresh_message_gone}
use Rattle.quiet.proofs.NoGap.{open_fresh, open_idle, new_fresh, again-fresh, next-fresh, old_fresh, ahead_fresh, heard-fresh}
use Rattle.quiet.proofs.Told.{open_told, open_idle_told, marked-told, new_told, again-told, passed_told, ack-sent-told, nak-sent-told, update_sent-told, back_passed_told, next-told, old_told, ahead_told, message_told, heard-told, limited-told, back_gone_told}
use Rattle.quiet.proofs.Shown.{open_shown, sent-shown, got-shown, acked-shown, reply-shown, stored-shown, ack-sent-shown, nak-sent-shown, update_sent-shown, back_passed_shown, ack-heard-shown, nak-heard-shown, update_heard-shown, packet_gone_shown}

module _ {n : ℕ} {link : Setup} {g : Past} {s : Sender} {forth back : List Slot} {r : Receiver} where
  pub live_new : Direction link g s forth r back → (channel place : ℕ) → new_of s ≡ Some (channel, place) → s.replay.at ≡ None → Live n link g s forth r back
      → Live n link (sending_one g (new_packet s channel place)) (sent_new s channel place) (forth ++ (slot (new_frame s channel place) ∷ [])) r back
  live_new i channel place new rests v =
      record {
        fresh = new_fresh i channel place rests v.fresh;
        told = new_told channel place v.told (fresh-few v.fresh);
        shown = sent-shown (new_packet s channel place) v.shown;
      }

  pub live_again : Direction link g s forth r back → (j : ℕ) → s.replay.at ≡ Some j → Live n link g s forth r back
      → Live n link g (replayed s j) (forth ++ (slot (replay_frame s j) ∷ [])) r back
  live_again i j at v =
      record { fresh = again-fresh i j at v.fresh; told = again-told j v.told (fresh-few v.fresh); shown = v.shown }

  pub live_passed : (m : Message) → Live n link g s forth r back → Live n link g s (forth ++ (a_message m ∷ [])) r back
  live_passed m v =
      record { fresh = fresh-other m v.fresh; told = passed_told m v.told (fresh-few v.fresh); shown = v.shown }

  pub live_ack : Direction link g s forth r back → Live n link g s forth r back
      → Live n link g s forth (cleared r) (back ++ (a_message (Message.Ack (before_of r.reply.next_receive)) ∷ []))
  live_ack i v =
      record {
        fresh = v.fresh;
        told = ack-sent-told i v.told;
        shown = ack-sent-shown (before_of r.reply.next_receive) v.shown;
      }

  pub live_nak : Direction link g s forth r back → Live n link g s forth r back
      → Live n link g s forth (cleared r) (back ++ (a_message (Message.Nak (before_of r.reply.next_receive)) ∷ []))
  live_nak i v =
      record {
        fresh = v.fresh;
        told = nak-sent-told i v.told;
        shown = nak-sent-shown (before_of r.reply.next_receive) v.shown;
      }

  pub live_update : Direction link g s forth r back → (k : ℕ) → first_marked r ≡ Some k → Live n link g s forth r back
      → Live n link g s forth (told r k) (back ++ (slot (update_frame r k) ∷ []))
  live_update i k first v =
      record { fresh = v.fresh; told = update_sent-told k v.told; shown = update_sent-shown i k first v.shown }

  pub live_back : (number : Seq) (p : Packet) → Live n link g s forth r back → Live n link g s forth r (back ++ (slot (Frame.Packet number p) ∷ []))
  live_back number p v =
      record { fresh = v.fresh; told = back_passed_told number p v.told; shown = back_passed_shown number p v.shown }

  -- ---- a packet arrives

  module _ (ok : in_range link ≡ true) {number : Seq} {p : Packet} (i : Direction link g s (slot (Frame.Packet number p) ∷ forth) r back)
      (v : Live n link g s (slot (Frame.Packet number p) ∷ forth) r back) where
    pub live_next : (o ok i).t ≡ g.got → Live (pred n) link (getting_one g) s forth (stored r (channel_for link p) p) back
    live_next e =
        record {
          fresh = next-fresh ok i e v.fresh;
          told = next-told (channel_for link p) p v.told;
          shown = stored-shown i.r_arrays (channel_for link p) (channel_below link ok p (arrived-rules ok i)) p (got-shown v.shown);
        }

    pub live_old : (o ok i).t < g.got → Live (pred n) link g s forth (with_reply r (after_duplicate r.reply)) back
    live_old e =
        record {
          fresh = old_fresh ok i e v.fresh;
          told = old_told v.told;
          shown = reply-shown (with_reply r (after_duplicate r.reply)) refl v.shown;
        }

    -- a fresh packet is never out of order
    pub live_ahead : g.got < (o ok i).t → (n ≢ 0) × Live (pred n) link g s forth (with_reply r (after_gap r.reply)) back
    live_ahead e =
        let f = ahead_fresh ok i e v.fresh in (
          f.0,
          record {
            fresh = f.1;
            told = ahead_told f.0 v.told;
            shown = reply-shown (with_reply r (after_gap r.reply)) refl v.shown;
          },
        )

  -- a link message of the other direction leaves the line forth, a packet of the other direction the line back
  pub live_message_gone : {m : Message} → Live n link g s (a_message m ∷ forth) r back → Live (pred n) link g s forth r back
  live_message_gone v = record { fresh = fresh_message_gone v.fresh; told = message_told v.told; shown = v.shown }

  pub live_packet_gone : {number : Seq} {p : Packet} → Live n link g s forth r (slot (Frame.Packet number p) ∷ back) → Live n link g s forth r back
  live_packet_gone v = record { fresh = v.fresh; told = back_gone_told v.told; shown = packet_gone_shown v.shown }

  -- ---- a link message is heard

  pub live_ack-heard : {number : Seq} → Direction link g s forth r (a_message (Message.Ack number) ∷ back) → (h : Released false link g s forth r back number)
      → Live n link g s forth r (a_message (Message.Ack number) ∷ back) → Live n link (acking g h.v) (acknowledged s number) forth r back
  live_ack-heard {number} i h l =
      record {
        fresh = heard-fresh false i number h.v h.number_is h.low h.high l.fresh;
        told = heard-told false i h l.told;
        shown = acked-shown h.v (ack-heard-shown l.shown);
      }

  pub live_nak-heard : {number : Seq} → Direction link g s forth r (a_message (Message.Nak number) ∷ back) → (h : Released true link g s forth r back number)
      → Live n link g s forth r (a_message (Message.Nak number) ∷ back) → Live n link (acking g h.v) (again (acknowledged s number)) forth r back
  live_nak-heard {number} i h l =
      record {
        fresh = heard-fresh true i number h.v h.number_is h.low h.high l.fresh;
        told = heard-told true i h l.told;
        shown = acked-shown h.v (nak-heard-shown l.shown);
      }

  pub live_update_heard : in_range link ≡ true → {channel : ℕ} {c : Category} {x : Counts} → Direction link g s forth r (a_message (Message.Update channel c x) ∷ back)
      → (h : Limited link g s forth r back channel c x) → Live n link g s forth r (a_message (Message.Update channel c x) ∷ back)
      → Live n link (limiting g (slot_of channel c) h.is) (with_credit s (slot_of channel c) (updated (credit_at s (slot_of channel c)) x)) forth r back
  live_update_heard ok {channel} {c} {x} i h l =
      let below : channel < channels = omega (arith, few-channels link ok, h.used) in
      record {
        fresh = l.fresh;
        told = limited-told (slot_of channel c) h.is (updated (credit_at s (slot_of channel c)) x) l.told;
        shown = update_heard-shown ok i below h.is h.stored h.low h.high l.shown;
      }

-- ---- the opening: Timer, then Refresh

module _ {link : Setup} {g : Past} {s : Sender} {forth back : List Slot} {r : Receiver} where
  pub live_open : in_range link ≡ true → Direction link g s forth r back → Live (length forth) link g (with_replay s (begun s.replay)) forth (refreshed r link.n) back
  unfolding refreshed
  live_open ok i =
      record { fresh = open_fresh i; told = marked-told refl (open_told i); shown = open_shown ok i }

  -- Timer is refused where nothing is unacknowledged
  pub live_open_idle : in_range link ≡ true → Direction link g s forth r back → s.buffer.len ≡ 0 → Live (length forth) link g s forth (refreshed r link.n) back
  unfolding refreshed
  live_open_idle ok i e =
      record { fresh = open_idle i e; told = marked-told refl (open_idle_told i e); shown = open_shown ok i }
