-- The receiving half in lent words, over plain values: the form in which a lent part comes back, the walks along the rooms,
-- and what several writes in a row come to. Assumes that it has all its words.
use Prim.Native.Nat.{ℕ, suc, ◌+◌, ◌-◌, ◌*◌, ◌≤◌, ◌<◌, min}
use mathlib.Core.Path.{◌≡◌, refl, sym, ap, ◌∙◌}
use mathlib.Core.List.{List, ◌++◌, map}
use native.Mathlib.Omega.{arith}
use lib.ListN.{length, get_or, take, drop, set, length-map, drop_of_length-le}
use lib.Seq.{drop-cons, take_all, get_or_at}
use Rattle.basics.specs.Parts.{part}
use Rattle.basics.proofs.Each.{by_order_lem}
use Rattle.basics.proofs.Maps.{length_made, made_more}
use Rattle.basics.proofs.Parts.{filled, filled-set}
use Rattle.setup.specs.Setup.{channels, per_end}
use Rattle.credits.specs.declared.Room.{Room}
use Rattle.credits.specs.Credits.{none, room_of, marked}
use Rattle.store.specs.declared.Packets.{Packets}
use Rattle.receiver.specs.declared.Reply.{Reply}
use Rattle.receiver.specs.declared.Receiver.{Receiver}
use Rattle.receiver.specs.Receiver.{receiver, inbox_at, room_at, with_reply, with_room, refreshed}
use Rattle.words.specs.Words.{room_in}
use Rattle.words.specs.Memory.{list_words, packets_in, rooms_at, reply_at, receiver_words, reply_in, receiver_in}
use Rattle.words.proofs.Patched.{back_patched, length_part}
use Rattle.words.proofs.Receiving.{inbox_is, put-inbox, room-is, put_room, put_reply, inbox-keeps, reply-keeps, set_keeps}
use Rattle.memory.specs.Receiving.{with_inbox}

-- how many words of a receive buffer are lent, as the code says it
abbrev lent : ℕ → ℕ
lent channel = list_words * channel + list_words - list_words * channel

lent_all : (channel : ℕ) → lent channel ≡ list_words
lent_all channel = omega arith

module _ (r : List ℕ) (long : length r ≡ receiver_words) where
  -- ---- a part comes back

  pub reply-back : (ys : List ℕ) (x : Reply) → reply_in ys ≡ x → length ys ≡ 3
      → (receiver_in (take reply_at r ++ (ys ++ drop 3 (drop reply_at r))) ≡ with_reply (receiver_in r) x)
      × (length (take reply_at r ++ (ys ++ drop 3 (drop reply_at r))) ≡ receiver_words)
  reply-back ys x e l =
      rw (back_patched r reply_at 3 ys l) (put_reply r long ys l ∙ ap (with_reply (receiver_in r)) e, reply-keeps r long ys l)

  pub inbox-here : (channel : ℕ) → channel < channels → packets_in (part r (list_words * channel) (lent channel)) ≡ inbox_at (receiver_in r) channel
  inbox-here channel h = rw (lent_all channel) (inbox_is r long channel h)

  pub inbox-back : (channel : ℕ) (ys : List ℕ) (f : Packets → Packets) → channel < channels
      → packets_in ys ≡ f (packets_in (part r (list_words * channel) (lent channel))) → length ys ≡ list_words
      → (receiver_in (take (list_words * channel) r ++ (ys ++ drop (lent channel) (drop (list_words * channel) r))) ≡ with_inbox (receiver_in r) channel (f (inbox_at (receiver_in r) channel)))
      × (length (take (list_words * channel) r ++ (ys ++ drop (lent channel) (drop (list_words * channel) r))) ≡ receiver_words)
  inbox-back channel ys f h is l =
      rw (back_patched r (list_words * channel) (lent channel) ys (l ∙ sym (lent_all channel))) (
        put-inbox r long channel ys h l ∙ ap (with_inbox (receiver_in r) channel) (is ∙ ap f (inbox-here channel h)),
        inbox-keeps r long channel ys h l,
      )

  pub room-put : (slot w : ℕ) (x : Room) → slot < per_end → room_in w ≡ x
      → (receiver_in (set r (rooms_at + slot) w) ≡ with_room (receiver_in r) slot x) × (length (set r (rooms_at + slot) w) ≡ receiver_words)
  room-put slot w x h e = (put_room r long slot w h ∙ ap (with_room (receiver_in r) slot) e, set_keeps r long (rooms_at + slot) w)

  -- ---- a walk along the rooms

  pub length_rooms : length (receiver_in r).rooms ≡ per_end
  unfolding receiver_in
  length_rooms = rw length-map (length_part r rooms_at per_end (omega arith))

-- ---- the rooms are marked from the front

-- the half r, its first i rooms marked
abbrev pub marking : Receiver → ℕ → Receiver
marking r i = receiver r.inboxes (filled i (map marked (take i r.rooms)) r.rooms) r.reply

module _ (a : Receiver) (long : length a.rooms ≡ per_end) where
  -- the next room is not marked yet
  pub room_next : (i : ℕ) → i < per_end → room_at (marking a i) i ≡ room_at a i
  room_next i h =
      let l : length (map marked (take i a.rooms)) ≡ i = length_made marked a.rooms i (omega arith) in
      rw (drop-cons a.rooms i (room_of none) (omega arith))
      (get_or_at (map marked (take i a.rooms)) (room_at a i) (drop (suc i) a.rooms) (room_of none) i l)

  pub marking_more : (i : ℕ) → i < per_end → with_room (marking a i) i (marked (room_at a i)) ≡ marking a (i + 1)
  marking_more i h =
      let l : length (map marked (take i a.rooms)) ≡ i = length_made marked a.rooms i (omega arith) in
      ap (λ (x : List Room). receiver a.inboxes x a.reply)
      (filled-set i (map marked (take i a.rooms)) a.rooms l (marked (room_at a i)) (room_of none) (omega arith)
      ∙ rw (made_more marked a.rooms i (room_of none) (omega arith)))

  -- past the end more is the same
  pub marking_all : (i k : ℕ) → per_end ≤ i → per_end ≤ k → marking a i ≡ marking a k
  marking_all i k h j =
      rw (
        take_all i a.rooms (omega arith),
        take_all k a.rooms (omega arith),
        drop_of_length-le a.rooms {i = i} (omega arith),
        drop_of_length-le a.rooms {i = k} (omega arith),
      )

-- one turn: the word of room i is written marked
pub mark_turn : (a : Receiver) → length a.rooms ≡ per_end → (r : List ℕ) → length r ≡ receiver_words → (i w : ℕ) → i < per_end
    → receiver_in r ≡ marking a i → room_in w ≡ marked (room_in (get_or r (rooms_at + i) 0)) → receiver_in (set r (rooms_at + i) w) ≡ marking a (i + 1)
mark_turn a l r long i w h e m =
    put_room r long i w h
    ∙ rw (m, room-is r long i h, e, room_next a l i h) (marking_more a l i h)

pub marked_all : (a : Receiver) (i n : ℕ) → i ≡ 3 * n → marking a i ≡ refreshed a n
unfolding refreshed
marked_all a i n e = rw e

-- as far as there are rooms
pub marked_used : (a : Receiver) → length a.rooms ≡ per_end → (i n : ℕ) → i ≡ min per_end (3 * n) → marking a i ≡ refreshed a n
marked_used a long i n e =
    by_order_lem (3 * n) per_end (λ h. marked_all a i n (omega arith))
    (λ h. marking_all a long i (3 * n) (omega arith) h ∙ marked_all a (3 * n) n refl)
