-- The steps of one end in lent words, over plain values: Submit's answers in turn, and a half that comes back to the end's words.
-- Assumes that the words of the end are all there, where a half comes back.
use Rattle.std.specs.Prelude.{if◌then◌else◌}
use Prim.Native.Nat.{ℕ, ◌/◌, ◌%◌}
use mathlib.Core.Path.{◌≡◌, refl, sym, ap, ◌∙◌}
use mathlib.Core.Bool.{Bool, true, false}
use mathlib.Core.Logic.{◌≢◌}
use mathlib.Core.List.{List, ◌++◌}
use lib.Dec.{eqb}
use lib.ListN.{length, take, drop}
use Rattle.counters.specs.declared.Seq.{Seq}
use Rattle.packets.specs.declared.Packet.{Packet}
use Rattle.frames.specs.declared.Frame.{Frame}
use Rattle.frames.specs.declared.Message.{Message}
use Rattle.frames.specs.Frames.{in_range, frame_answer}
use Rattle.setup.specs.declared.Setup.{Setup}
use Rattle.setup.specs.Setup.{channel_of}
use Rattle.sender.specs.declared.Sender.{Sender}
use Rattle.sender.specs.Sender.{Told}
use Rattle.sender.specs.Sender.{submitted}
use Rattle.receiver.specs.declared.Receiver.{Receiver}
use Rattle.receiver.specs.Receiver.{refreshed}
use Rattle.hearing.specs.Hearing.{hears}
use Rattle.delivery.specs.Delivery.{Got}
use Rattle.delivery.specs.Delivery.{arrives, damaged, take_of}
use Rattle.ends.specs.declared.End.{End}
use Rattle.ends.specs.Ends.{Stepped}
use Rattle.ends.specs.Ends.{end, stepped, by_sender, by_receiver, submit_answer, submit_of, heard, arrive_of, damage_of, take_at, refresh_of}
use Rattle.words.specs.Words.{packet_in, seq_in, message_in, frame_in}
use Rattle.words.specs.Memory.{sender_words, receiver_words, end_words, sender_in, receiver_in, sending_in, receiving_in, end_in}
use Rattle.words.proofs.Patched.{back_patched}
use Rattle.words.proofs.Whole.{put-sending, put-receiving}
use Rattle.memory.specs.declared.hosts.Said.{Said}
use Rattle.memory.specs.Said.{said, said_got, said_stepped}

-- ---- what a step says, and the end that it leaves

abbrev Answers : Setup → List ℕ → ℕ → Stepped → Type 0
Answers link w r s = (r ≡ s.answer) × (end_in link w ≡ s.end)

abbrev Says : Setup → List ℕ → Said → Stepped → Type 0
Says link w r s = (r ≡ said_stepped s) × (end_in link w ≡ s.end)

module _ (link : Setup) (m : List ℕ) (long : length m ≡ end_words) where
  abbrev it : End
  it = end_in link m

  -- a half comes back
  module _ (ys : List ℕ) where
    abbrev with-sending : List ℕ
    with-sending = ys ++ drop sender_words m

    abbrev with-receiving : List ℕ
    with-receiving = take sender_words m ++ (ys ++ drop receiver_words (drop sender_words m))

    sending-back : (s : Sender) → sender_in ys ≡ s → length ys ≡ sender_words → end_in link with-sending ≡ end link s (receiving_in m)
    unfolding end_in
    sending-back s is k =
        rw (back_patched m 0 sender_words ys k) (put-sending m long ys k link ∙ ap (λ (x : Sender). end link x (receiving_in m)) is)

    receiving-back : (r : Receiver) → receiver_in ys ≡ r → length ys ≡ receiver_words → end_in link with-receiving ≡ end link (sending_in m) r
    unfolding end_in
    receiving-back r is k =
        rw (back_patched m sender_words receiver_words ys k) (put-receiving m long ys k link ∙ ap (λ (x : Receiver). end link (sending_in m) x) is)

    pub by_sender_lem : (t : Told) (r : ℕ) → (r ≡ t.answer) × (sender_in ys ≡ t.sender) → length ys ≡ sender_words → Answers link with-sending r (by_sender it t)
    unfolding end_in
    by_sender_lem t r h k = (h.0, sending-back t.sender h.1 k)

    pub by_receiver_lem : (g : Got) (r : Said) → (r ≡ said_got g) × (receiver_in ys ≡ g.receiver) → length ys ≡ receiver_words
        → Says link with-receiving r (by_receiver it g)
    unfolding end_in
    by_receiver_lem g r h k = (h.0, receiving-back g.receiver h.1 k)

    -- a step that asks for the number of channels
    module _ (n : ℕ) (of : n ≡ link.n) where
      pub takes : (channel category : ℕ) (r : Said)
          → (r ≡ said_got (take_of (receiving_in m) n channel category)) × (receiver_in ys ≡ (take_of (receiving_in m) n channel category).receiver)
          → length ys ≡ receiver_words → Says link with-receiving r (take_at it channel category)
      unfolding end_in
      takes channel category r h = by_receiver_lem (take_of (receiving_in m) link.n channel category) r (rw of at h)

      pub refreshes : receiver_in ys ≡ refreshed (receiving_in m) n → length ys ≡ receiver_words → end_in link with-receiving ≡ (refresh_of it).end
      unfolding end_in refresh_of
      refreshes h = receiving-back _ (rw of at h)

  -- Submit
  pub submits : (p : Packet) → 0 ≡ submit_answer it p → (channel w : ℕ) → channel ≡ channel_of link p.class → packet_in w ≡ p → (ys : List ℕ)
      → sender_in ys ≡ submitted (sending_in m) channel (packet_in w) → length ys ≡ sender_words → Answers link (ys ++ drop sender_words m) 0 (submit_of it p)
  unfolding submit_of end_in
  submits p fine channel w on is ys h k =
      let t : submit_answer it p ≡ 0 = sym fine in
      rw t (refl, sending-back ys (submitted (sending_in m) (channel_of link p.class) p) (h ∙ rw (on, is)) k)

  -- a frame arrives
  module _ (f g : Frame) (same : f ≡ g) where
    pub arrive-refused : (a : ℕ) → a ≡ frame_answer link.n f → a ≢ 0 → Says link m (said a 0) (arrive_of it g)
    unfolding arrive_of end_in
    arrive-refused a answer n = go (in_range link.n g) (answer ∙ ap (frame_answer link.n) same)
      where
        go : (b : Bool) → a ≡ (if b then 0 else 27) → Says link m (said a 0) (if eqb (if b then 0 else 27) 0 then heard it g else stepped it 27 0)
        go true z = absurd (n z)
        go false z = (ap (λ (k : ℕ). said k 0) z, refl)

    module _ (answer : 0 ≡ frame_answer link.n f) where
      heard-is : (x : Frame) → f ≡ x → arrive_of it g ≡ heard it x
      unfolding arrive_of end_in
      heard-is x is =
          let t : frame_answer link.n g ≡ 0 = rw (sym same) (sym answer) in
          rw t (ap (heard it) (sym same ∙ is))

      pub arrive-packet : (number : Seq) (p q : Packet) → f ≡ Frame.Packet number p → q ≡ p → (channel : ℕ) → channel ≡ channel_of link p.class
          → (r : Said) (ys : List ℕ)
          → (r ≡ said_got (arrives (receiving_in m) channel number q)) × (receiver_in ys ≡ (arrives (receiving_in m) channel number q).receiver)
          → length ys ≡ receiver_words → Says link (take sender_words m ++ (ys ++ drop receiver_words (drop sender_words m))) r (arrive_of it g)
      unfolding end_in
      arrive-packet number p q is e channel on r ys h k =
          rw (heard-is (Frame.Packet number p) is, sym on, sym e) (by_receiver_lem ys (arrives (receiving_in m) channel number q) r h k)

      pub arrive_message : (x : Message) → f ≡ Frame.Message x → (n : ℕ) (ys : List ℕ)
          → (n ≡ (hears (sending_in m) x).answer) × (sender_in ys ≡ (hears (sending_in m) x).sender)
          → length ys ≡ sender_words → Says link (ys ++ drop sender_words m) (said n 0) (arrive_of it g)
      unfolding end_in
      arrive_message x is n ys h k =
          let b = by_sender_lem ys (hears (sending_in m) x) n h k in
          rw (heard-is (Frame.Message x) is) (ap (λ (k : ℕ). said k 0) b.0, b.1)

    pub damage-packet : (number : Seq) (p : Packet) → f ≡ Frame.Packet number p → (ys : List ℕ)
        → receiver_in ys ≡ damaged (receiving_in m) → length ys ≡ receiver_words
        → Says link (take sender_words m ++ (ys ++ drop receiver_words (drop sender_words m))) (said 0 4) (damage_of it g)
    unfolding damage_of end_in
    damage-packet number p is ys h k = rw (sym same, is) (refl, receiving-back ys (damaged (receiving_in m)) h k)

    pub damage_message : (x : Message) → f ≡ Frame.Message x → Says link m (said 0 4) (damage_of it g)
    unfolding damage_of
    damage_message x is = rw (sym same, is) (refl, refl)

-- the second word of a packet's frame is the packet's
abbrev packet_from : Packet → Frame → Packet
packet_from d (Frame.Packet number p) = p
packet_from d (Frame.Message x) = d

pub packet_in_lem : (head rest : ℕ) (f : Frame) (number : Seq) (p : Packet) → f ≡ frame_in head rest → f ≡ Frame.Packet number p → packet_in rest ≡ p
packet_in_lem head rest f number p same is = go (eqb (head % 4) 0) (sym same ∙ is)
  where
    go : (b : Bool) → (if b then Frame.Packet (seq_in (head / 4)) (packet_in rest) else Frame.Message (message_in head)) ≡ Frame.Packet number p
        → packet_in rest ≡ p
    go true e = ap (packet_from (packet_in rest)) e
    go false e = ap (packet_from (packet_in rest)) e
