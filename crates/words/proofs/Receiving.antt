-- The words of the receiving half: each part read is the half's field, and each part written anew is the half with that field changed.
-- Assumes that it has all its words.
use Prim.Native.Nat.{ℕ, ◌+◌, ◌*◌, ◌≤◌, ◌<◌}
use mathlib.Core.Path.{◌≡◌, sym, ap, ◌∙◌}
use mathlib.Core.List.{List, []}
use native.Mathlib.Omega.{arith}
use lib.ListN.{length, get_or, set, length-set}
use Rattle.basics.specs.Parts.{part}
use Rattle.setup.specs.Setup.{channels, per_end}
use Rattle.credits.specs.Credits.{room_of, none}
use Rattle.store.specs.Store.{empty}
use Rattle.receiver.specs.Receiver.{receiver, inbox_at, room_at, with_room, with_reply}
use Rattle.words.specs.Words.{room_in}
use Rattle.words.specs.Memory.{list_words, packets_in, rooms_at, reply_at, receiver_words, reply_in, receiver_in}
use Rattle.words.proofs.Patched.{patched, length_patched, part_same, part-before, part-after, part-set, part-set-after, part-get_or, length_part, map-set, get_or_mapped}
use Rattle.words.proofs.Lists.{list-is, put-list, lists_same, lists_set}

module _ (r : List ℕ) (long : length r ≡ receiver_words) where
  -- ---- a receive buffer

  pub inbox_is : (channel : ℕ) → channel < channels → packets_in (part r (list_words * channel) list_words) ≡ inbox_at (receiver_in r) channel
  unfolding receiver_in
  inbox_is channel h = list-is r [] channel empty h

  pub put-inbox : (channel : ℕ) (ys : List ℕ) → channel < channels → length ys ≡ list_words
      → receiver_in (patched r (list_words * channel) ys)
      ≡ receiver (set (receiver_in r).inboxes channel (packets_in ys)) (receiver_in r).rooms (receiver_in r).reply
  unfolding receiver_in
  put-inbox channel ys h e =
      let a = list_words * channel in
      let l : a ≤ length r = omega arith in
      rw (
        put-list r ys channel h e (omega arith),
        part-after r a ys l rooms_at per_end (omega arith),
        part-after r a ys l reply_at 3 (omega arith),
      )

  -- ---- a room

  pub room-is : (slot : ℕ) → slot < per_end → room_in (get_or r (rooms_at + slot) 0) ≡ room_at (receiver_in r) slot
  unfolding receiver_in
  room-is slot h =
      let l : length (part r rooms_at per_end) ≡ per_end = length_part r rooms_at per_end (omega arith) in
      sym (get_or_mapped room_in (part r rooms_at per_end) slot 0 (room_of none) (omega arith) ∙ ap room_in (part-get_or r rooms_at per_end slot 0 h))

  pub put_room : (slot w : ℕ) → slot < per_end → receiver_in (set r (rooms_at + slot) w) ≡ with_room (receiver_in r) slot (room_in w)
  unfolding receiver_in
  put_room slot w h =
      let k = rooms_at + slot in
      rw (
        lists_set r k w (omega arith) (omega arith),
        part-set r rooms_at per_end slot w h,
        map-set room_in (part r rooms_at per_end) slot w,
        part-set-after r reply_at 3 k w (omega arith),
      )

  -- ---- the reply

  pub put_reply : (ys : List ℕ) → length ys ≡ 3 → receiver_in (patched r reply_at ys) ≡ with_reply (receiver_in r) (reply_in ys)
  unfolding receiver_in
  put_reply ys e =
      let l : reply_at ≤ length r = omega arith in
      rw (
        lists_same r ys reply_at (omega arith) l,
        part-before r reply_at ys l rooms_at per_end (omega arith),
        part_same r reply_at ys l 3 e,
      )

  -- ---- it keeps all its words

  pub inbox-keeps : (channel : ℕ) (ys : List ℕ) → channel < channels → length ys ≡ list_words
      → length (patched r (list_words * channel) ys) ≡ receiver_words
  inbox-keeps channel ys h e = length_patched r (list_words * channel) ys (omega arith) ∙ long

  pub reply-keeps : (ys : List ℕ) → length ys ≡ 3 → length (patched r reply_at ys) ≡ receiver_words
  reply-keeps ys e = length_patched r reply_at ys (omega arith) ∙ long

  pub set_keeps : (k w : ℕ) → length (set r k w) ≡ receiver_words
  set_keeps k w = length-set r k w ∙ long
