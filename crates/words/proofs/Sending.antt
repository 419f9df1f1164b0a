-- The words of the sending half: each part read is the half's field, and each part written anew is the half with that field changed.
-- Assumes that it has all its words.
use Prim.Native.Nat.{ℕ, ◌+◌, ◌*◌, ◌≤◌, ◌<◌}
use mathlib.Core.Path.{◌≡◌, sym, ap, ◌∙◌}
use mathlib.Core.List.{List, [], map}
use native.Mathlib.Omega.{arith}
use lib.ListN.{length, get_or, set, length-set}
use lib.Seq.{get_or-set_same, get_or-set_other}
use Rattle.basics.specs.Parts.{part}
use Rattle.setup.specs.Setup.{channels, per_end}
use Rattle.credits.specs.Credits.{credit_for, none}
use Rattle.store.specs.Store.{empty}
use Rattle.sender.specs.Sender.{sender, queue_at, credit_at, with_queue, with_credit, with_replay}
use Rattle.sender.specs.Sources.{credits_of}
use Rattle.words.specs.Words.{credit_in, seq_in}
use Rattle.words.specs.Memory.{places, list_words, packets_in, buffer_at, credits_at, next_at, acked_at, replay_at, sender_words, replay_in, sender_in}
use Rattle.words.proofs.Patched.{patched, length_patched, part_same, part-before, part-after, part-set, part-set-before, part-set-after, part-get_or, part_three, length_part, get_or-before, get_or_after, map-set, get_or_mapped}
use Rattle.words.proofs.Lists.{list-is, put-list, lists_same, lists_set}

module _ (s : List ℕ) (long : length s ≡ sender_words) where
  -- ---- a queue

  pub queue_is : (channel : ℕ) → channel < channels → packets_in (part s (list_words * channel) list_words) ≡ queue_at (sender_in s) channel
  unfolding sender_in
  queue_is channel h = list-is s [] channel empty h

  pub put-queue : (channel : ℕ) (ys : List ℕ) → channel < channels → length ys ≡ list_words
      → sender_in (patched s (list_words * channel) ys) ≡ with_queue (sender_in s) channel (packets_in ys)
  unfolding sender_in
  put-queue channel ys h e =
      let a = list_words * channel in
      let l : a ≤ length s = omega arith in
      rw (
        put-list s ys channel h e (omega arith),
        part-after s a ys l credits_at per_end (omega arith),
        part-after s a ys l buffer_at list_words (omega arith),
        get_or_after s a ys l next_at 0 (omega arith),
        get_or_after s a ys l acked_at 0 (omega arith),
        part-after s a ys l replay_at 4 (omega arith),
      )

  -- ---- the replay buffer

  pub put_buffer : (ys : List ℕ) → length ys ≡ list_words
      → sender_in (patched s buffer_at ys)
      ≡ sender (sender_in s).queues (sender_in s).credits (packets_in ys) (sender_in s).next (sender_in s).acked (sender_in s).replay
  unfolding sender_in
  put_buffer ys e =
      let l : buffer_at ≤ length s = omega arith in
      rw (
        lists_same s ys buffer_at (omega arith) l,
        part-after s buffer_at ys l credits_at per_end (omega arith),
        part_same s buffer_at ys l list_words e,
        get_or_after s buffer_at ys l next_at 0 (omega arith),
        get_or_after s buffer_at ys l acked_at 0 (omega arith),
        part-after s buffer_at ys l replay_at 4 (omega arith),
      )

  -- how many packets are sent and not acknowledged
  pub out_is : get_or s 244 0 ≡ (sender_in s).buffer.len
  unfolding sender_in
  out_is = sym (part-get_or s buffer_at list_words places 0 (omega arith))

  -- ---- a credit

  pub credit-is : (slot : ℕ) → slot < per_end → credit_in (get_or s (credits_at + slot) 0) ≡ credit_at (sender_in s) slot
  unfolding sender_in
  credit-is slot h =
      let l : length (part s credits_at per_end) ≡ per_end = length_part s credits_at per_end (omega arith) in
      sym (get_or_mapped credit_in (part s credits_at per_end) slot 0 (credit_for none) (omega arith) ∙ ap credit_in (part-get_or s credits_at per_end slot 0 h))

  pub put-credit : (slot w : ℕ) → slot < per_end → sender_in (set s (credits_at + slot) w) ≡ with_credit (sender_in s) slot (credit_in w)
  unfolding sender_in
  put-credit slot w h =
      let k = credits_at + slot in
      rw (
        lists_set s k w (omega arith) (omega arith),
        part-set s credits_at per_end slot w h,
        map-set credit_in (part s credits_at per_end) slot w,
        part-set-before s buffer_at list_words k w (omega arith),
        get_or-set_other s k next_at w 0 (omega arith),
        get_or-set_other s k acked_at w 0 (omega arith),
        part-set-after s replay_at 4 k w (omega arith),
      )

  -- the credits of a channel
  pub credits_are : (channel : ℕ) → channel < channels → map credit_in (part s (credits_at + 3 * channel) 3) ≡ credits_of (sender_in s) channel
  credits_are channel h =
      let p : 3 * channel + 0 ≡ 3 * channel = omega arith in
      let n : credits_at + 3 * channel + 1 ≡ credits_at + (3 * channel + 1) = omega arith in
      let c : credits_at + 3 * channel + 2 ≡ credits_at + (3 * channel + 2) = omega arith in
      rw (
        part_three s (credits_at + 3 * channel) 0 (omega arith),
        n,
        c,
        p,
        credit-is (3 * channel) (omega arith),
        credit-is (3 * channel + 1) (omega arith),
        credit-is (3 * channel + 2) (omega arith),
      )

  -- ---- the two numbers

  pub put_next : (w : ℕ)
      → sender_in (set s next_at w)
      ≡ sender (sender_in s).queues (sender_in s).credits (sender_in s).buffer (seq_in w) (sender_in s).acked (sender_in s).replay
  unfolding sender_in
  put_next w =
      rw (
        lists_set s next_at w (omega arith) (omega arith),
        part-set-before s credits_at per_end next_at w (omega arith),
        part-set-before s buffer_at list_words next_at w (omega arith),
        get_or-set_same s next_at w 0 (omega arith),
        get_or-set_other s next_at acked_at w 0 (omega arith),
        part-set-after s replay_at 4 next_at w (omega arith),
      )

  pub put-acked : (w : ℕ)
      → sender_in (set s acked_at w)
      ≡ sender (sender_in s).queues (sender_in s).credits (sender_in s).buffer (sender_in s).next (seq_in w) (sender_in s).replay
  unfolding sender_in
  put-acked w =
      rw (
        lists_set s acked_at w (omega arith) (omega arith),
        part-set-before s credits_at per_end acked_at w (omega arith),
        part-set-before s buffer_at list_words acked_at w (omega arith),
        get_or-set_other s acked_at next_at w 0 (omega arith),
        get_or-set_same s acked_at w 0 (omega arith),
        part-set-after s replay_at 4 acked_at w (omega arith),
      )

  -- ---- the running replay

  pub put-replay : (ys : List ℕ) → length ys ≡ 4 → sender_in (patched s replay_at ys) ≡ with_replay (sender_in s) (replay_in ys)
  unfolding sender_in
  put-replay ys e =
      let l : replay_at ≤ length s = omega arith in
      rw (
        lists_same s ys replay_at (omega arith) l,
        part-before s replay_at ys l credits_at per_end (omega arith),
        part-before s replay_at ys l buffer_at list_words (omega arith),
        get_or-before s replay_at ys l next_at 0 (omega arith),
        get_or-before s replay_at ys l acked_at 0 (omega arith),
        part_same s replay_at ys l 4 e,
      )

  -- ---- it keeps all its words

  pub queue-keeps : (channel : ℕ) (ys : List ℕ) → channel < channels → length ys ≡ list_words → length (patched s (list_words * channel) ys) ≡ sender_words
  queue-keeps channel ys h e = length_patched s (list_words * channel) ys (omega arith) ∙ long

  pub buffer_keeps : (ys : List ℕ) → length ys ≡ list_words → length (patched s buffer_at ys) ≡ sender_words
  buffer_keeps ys e = length_patched s buffer_at ys (omega arith) ∙ long

  pub replay-keeps : (ys : List ℕ) → length ys ≡ 4 → length (patched s replay_at ys) ≡ sender_words
  replay-keeps ys e = length_patched s replay_at ys (omega arith) ∙ long

  pub set_keeps : (k w : ℕ) → length (set s k w) ≡ sender_words
  set_keeps k w = length-set s k w ∙ long
