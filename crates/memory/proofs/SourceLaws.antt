-- Send by its source: the same as `send_of`; a marked update has a slot, and a new packet a channel. What a source gives.
-- Assumes that the words of the end, or of its half, are all there.
use Rattle.std.specs.Prelude.{Option, ℕ, Some, None}
use Prim.Native.Nat.{ℕ, ◌*◌, ◌<◌}
use mathlib.Core.Path.{◌≡◌, refl, sym, ap, ◌∙◌}
use mathlib.Core.List.{List, ◌++◌}
use native.Mathlib.Omega.{arith}
use lib.ListN.{length, take, drop, length-map}
use Rattle.basics.proofs.Finds.{apart, found_first}
use Rattle.counters.specs.declared.Seq.{Seq}
use Rattle.packets.specs.declared.Packet.{Packet}
use Rattle.credits.specs.Credits.{none, room_of}
use Rattle.frames.specs.declared.Frame.{Frame}
use Rattle.setup.specs.Setup.{channels, per_end}
use Rattle.sender.specs.declared.Sender.{Sender}
use Rattle.sender.specs.Sources.{replay_frame, replayed, new_of, new_frame, sent_new}
use Rattle.sender.proofs.Choosing.{new_channel}
use Rattle.receiver.specs.declared.Owed.{Owed}
use Rattle.receiver.specs.declared.Receiver.{Receiver}
use Rattle.receiver.specs.Receiver.{nak_by, ack_by, cleared, is_marked, first_marked, update_frame, told}
use Rattle.ends.specs.declared.End.{End}
use Rattle.ends.specs.Sends.{Sent}
use Rattle.ends.specs.Ends.{end}
use Rattle.ends.specs.Sends.{sent, from_receiver, from_sender, on_frame, on_found, on_new, send_of}
use Rattle.words.specs.Words.{packet_in, frame_in}
use Rattle.words.specs.Memory.{sender_words, receiver_words, end_words, rooms_at, sender_in, receiver_in, sending_in, receiving_in}
use Rattle.words.proofs.Round.{packet-frame-round}
use Rattle.words.proofs.Patched.{back_patched, length_part}
use Rattle.words.proofs.Whole.{sending-put, sending_leaves, receiving-put, receiving_leaves}
use Rattle.memory.specs.declared.Source.{Source}
use Rattle.memory.specs.Sources.{by_slot, by_place, by_new, by_owed, source_of, frame_from, sender_after, receiver_after, detail_from}

-- ---- what Send does, by its source

abbrev pub given : End → Source → Sent
given e x =
    sent (end e.setup (sender_after e.sender x) (receiver_after e.receiver x)) (Some (frame_from e.sender e.receiver x)) 0 (detail_from x)

abbrev pub sent_from : End → Option Source → Sent
sent_from e (Some x) = given e x
sent_from e None = sent e None 18 0

pub sends_as : (e : End) → send_of e ≡ sent_from e (source_of e.sender e.receiver)
unfolding send_of source_of
sends_as e = go e.receiver.reply.owed (first_marked e.receiver) e.sender.replay.at (new_of e.sender)
  where
    go : (o : Owed) (m a : Option ℕ) (n : Option (ℕ × ℕ))
        → on_frame (nak_by o e.receiver.reply.next_receive) (λ f. from_receiver e (cleared e.receiver) f 1)
        (on_frame (ack_by o e.receiver.reply.next_receive) (λ f. from_receiver e (cleared e.receiver) f 2)
        (on_found m (λ i. from_receiver e (told e.receiver i) (update_frame e.receiver i) 3)
        (on_found a (λ i. from_sender e (replayed e.sender i) (replay_frame e.sender i) 4)
        (on_new n (λ channel place. from_sender e (sent_new e.sender channel place) (new_frame e.sender channel place) 5)
        (sent e None 18 0)))))
        ≡ sent_from e (by_owed o (by_slot m (by_place a (by_new n))))
    go Owed.Nak m a n = refl
    go Owed.Ack m a n = refl
    go Owed.Nothing (Some i) a n = refl
    go Owed.Nothing None (Some i) n = refl
    go Owed.Nothing None None (Some (channel, place)) = refl
    go Owed.Nothing None None None = refl

-- ---- the slot of an update, the channel of a new packet

abbrev slot_from : Option Source → Option ℕ
slot_from (Some Source.Nak) = None
slot_from (Some Source.Ack) = None
slot_from (Some (Source.Update i)) = Some i
slot_from (Some (Source.Replay i)) = None
slot_from (Some (Source.New channel place)) = None
slot_from None = None

marked_first : (s : Sender) (r : Receiver) (i : ℕ) → Some (Source.Update i) ≡ source_of s r → first_marked r ≡ Some i
unfolding source_of
marked_first s r i x = go r.reply.owed (first_marked r) s.replay.at (new_of s) (ap slot_from x)
  where
    go : (o : Owed) (m a : Option ℕ) (n : Option (ℕ × ℕ)) → Some i ≡ slot_from (by_owed o (by_slot m (by_place a (by_new n)))) → m ≡ Some i
    go Owed.Nak m a n e = apart i (sym e)
    go Owed.Ack m a n e = apart i (sym e)
    go Owed.Nothing (Some j) a n e = sym e
    go Owed.Nothing None (Some j) n e = apart i (sym e)
    go Owed.Nothing None None (Some (channel, place)) e = apart i (sym e)
    go Owed.Nothing None None None e = apart i (sym e)

abbrev new_from : Option Source → Option (ℕ × ℕ)
new_from (Some Source.Nak) = None
new_from (Some Source.Ack) = None
new_from (Some (Source.Update i)) = None
new_from (Some (Source.Replay i)) = None
new_from (Some (Source.New channel place)) = Some (channel, place)
new_from None = None

new_first : (s : Sender) (r : Receiver) (channel place : ℕ) → Some (Source.New channel place) ≡ source_of s r → new_of s ≡ Some (channel, place)
unfolding source_of
new_first s r channel place x = go r.reply.owed (first_marked r) s.replay.at (new_of s) (ap new_from x)
  where
    none : {B : Type 0} → ◌≡◌ {A = Option (ℕ × ℕ)} (Some (channel, place)) None → B
    none e = let z : ◌≡◌ {A = ℕ} 0 1 = cc in absurd (omega arith)

    go : (o : Owed) (m a : Option ℕ) (n : Option (ℕ × ℕ)) → ◌≡◌ {A = Option (ℕ × ℕ)} (Some (channel, place)) (new_from (by_owed o (by_slot m (by_place a (by_new n))))) → n ≡ Some (channel, place)
    go Owed.Nak m a n e = none e
    go Owed.Ack m a n e = none e
    go Owed.Nothing (Some j) a n e = none e
    go Owed.Nothing None (Some j) n e = none e
    go Owed.Nothing None None (Some (k, j)) e = sym e
    go Owed.Nothing None None None e = none e

pub channel_below : (s : Sender) (r : Receiver) (channel place : ℕ) → Some (Source.New channel place) ≡ source_of s r → channel < channels
channel_below s r channel place x = new_channel s channel place (new_first s r channel place x)

pub slot_below : (s : Sender) (m : List ℕ) (i : ℕ) → length m ≡ receiver_words → Some (Source.Update i) ≡ source_of s (receiver_in m) → i < per_end
unfolding receiver_in
slot_below s m i long x =
    let f = (found_first (room_of none) is_marked (receiver_in m).rooms i (marked_first s (receiver_in m) i x)).0 in
    rw (length-map, length_part m rooms_at per_end (omega arith)) at f

-- ---- the frame of a packet

pub packet_is : (n t : Seq) (p : Packet) (w : ℕ) → n.0 < 65536 → packet_in w ≡ p → n ≡ t → frame_in (4 * n.0) w ≡ Frame.Packet t p
packet_is n t p w b e h = packet-frame-round n p w b e ∙ ap (λ (x : Seq). Frame.Packet x p) h

-- ---- the half that a source changes comes back to the end's words

abbrev Leaves : List ℕ → Source → List ℕ → Type 0
Leaves m x w = (sending_in w ≡ sender_after (sending_in m) x) × (receiving_in w ≡ receiver_after (receiving_in m) x)

module _ (m : List ℕ) (long : length m ≡ end_words) (x y : Source) (is : x ≡ y) (ys : List ℕ) where
  pub by_sending : receiver_after (receiving_in m) y ≡ receiving_in m → sender_in ys ≡ sender_after (sending_in m) y → length ys ≡ sender_words
      → Leaves m x (ys ++ drop sender_words m)
  by_sending same h k =
      rw (is, back_patched m 0 sender_words ys k)
      (sending-put m long ys k ∙ h, sending_leaves m long ys k ∙ sym same)

  pub by_receiving : sender_after (sending_in m) y ≡ sending_in m → receiver_in ys ≡ receiver_after (receiving_in m) y → length ys ≡ receiver_words
      → Leaves m x (take sender_words m ++ (ys ++ drop receiver_words (drop sender_words m)))
  by_receiving same h k =
      rw (is, back_patched m sender_words receiver_words ys k)
      (receiving_leaves m long ys k ∙ sym same, receiving-put m long ys k ∙ h)
