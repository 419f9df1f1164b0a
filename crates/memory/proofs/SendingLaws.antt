-- What the words of the sending half mean once a part of them comes back, and what its parts read as.
-- Assumes that the half has all its words.
use Rattle.std.specs.Prelude.{Some, None, Option, ℕ}
use Prim.Native.Nat.{ℕ, ◌+◌, ◌-◌, ◌*◌, ◌≤◌, ◌<◌}
use mathlib.Core.Path.{◌≡◌, refl, sym, ap, ◌∙◌}
use mathlib.Core.Logic.{◌≢◌}
use mathlib.Core.List.{List, [], ◌∷◌, map}
use native.Mathlib.Omega.{arith}
use borrow.Author.Tests.{lt-ltb, le-ltb}
use borrow.Rule.Slice.PartMut.{put_mid}
use lib.ListN.{length, get_or, set, take, drop, get_or-eq_default}
use lib.Seq.{set_out}
use Rattle.basics.specs.Parts.{part, cut}
use Rattle.counters.specs.declared.Counts.{Counts}
use Rattle.counters.specs.declared.Seq.{Seq}
use Rattle.counters.specs.Counters.{next_of}
use Rattle.credits.specs.declared.Credit.{Credit}
use Rattle.credits.specs.Credits.{spent}
use Rattle.packets.specs.Packets.{number_of, slot_of, category_of, need_of}
use Rattle.packets.specs.declared.Category.{Category}
use Rattle.packets.specs.declared.Packet.{Packet}
use Rattle.store.specs.declared.Packets.{Packets}
use Rattle.store.specs.Store.{empty, held, of_category, pushed, removed}
use Rattle.choice.specs.Choice.{chosen}
use Rattle.setup.specs.Setup.{channels}
use Rattle.sender.specs.declared.Replay.{Replay}
use Rattle.sender.specs.declared.Sender.{Sender}
use Rattle.sender.specs.Sender.{replay, sender, queue_at, credit_at, with_queue, with_credit, with_replay, submitted, begun, timer_of}
use Rattle.sender.specs.Sources.{place_after, buffer_bound, credits_of, chosen_in, highest, new_of, new_packet, sent_new}
use Rattle.sender.proofs.Changes.{timer-refused, timer_starts}
use Rattle.sender.proofs.Slots.{slot_below}
use Rattle.words.specs.Words.{credit_in, seq_in}
use Rattle.words.specs.Memory.{list_words, packets_in, buffer_at, credits_at, next_at, acked_at, replay_at, sender_words, found_in, replay_in, sender_in}
use Rattle.words.proofs.Patched.{back_patched}
use Rattle.words.proofs.Sending.{queue_is, put-queue, queue-keeps, put_buffer, buffer_keeps, put-replay, replay-keeps, credit-is, put-credit, credits_are, put_next, put-acked, set_keeps, out_is}

-- ---- one field changed

abbrev pub with_buffer : Sender → Packets → Sender
with_buffer s q = sender s.queues s.credits q s.next s.acked s.replay

abbrev pub with_next : Sender → Seq → Sender
with_next s n = sender s.queues s.credits s.buffer n s.acked s.replay

abbrev pub with_acked : Sender → Seq → Sender
with_acked s n = sender s.queues s.credits s.buffer s.next n s.replay

-- ---- how many words a part has, as the code counts them: the n from a on

abbrev counted : ℕ → ℕ → ℕ
counted a n = a + n - a

counts : (a n : ℕ) → counted a n ≡ n
counts a n = omega arith

-- ---- the words of a replay

pub two-written : (x : List ℕ) (a b : ℕ) → length x ≡ 2 → set (set x 0 a) 1 b ≡ a ∷ b ∷ []
two-written [] a b h = absurd (omega arith)
two-written (x ∷ []) a b h = absurd (omega arith)
two-written (x ∷ y ∷ []) a b h = refl
two-written (x ∷ y ∷ z ∷ zs) a b h = absurd (omega arith)

module _ (x : List ℕ) (h : length x ≡ 2) (place : Option ℕ) where
  pub place_at : (i : ℕ) → place ≡ Some i
      → (found_in (get_or (set (set x 0 1) 1 i) 0 0) (get_or (set (set x 0 1) 1 i) 1 0) ≡ place) × (length (set (set x 0 1) 1 i) ≡ 2)
  place_at i e = rw (two-written x 1 i h, e) (refl, refl)

  pub place_none : place ≡ None
      → (found_in (get_or (set (set x 0 0) 1 0) 0 0) (get_or (set (set x 0 0) 1 0) 1 0) ≡ place) × (length (set (set x 0 0) 1 0) ≡ 2)
  place_none e = rw (two-written x 0 0 h, e) (refl, refl)

-- ---- parts that come back

module _ (s : List ℕ) (long : length s ≡ sender_words) where
  pub replay-back : (ys : List ℕ) (r : Replay) → length ys ≡ 4 → replay_in ys ≡ r
      → (sender_in (put_mid replay_at 4 s ys) ≡ with_replay (sender_in s) r)
      × (length (put_mid replay_at 4 s ys) ≡ sender_words)
  replay-back ys r e f =
      rw (back_patched s replay_at 4 ys e)
      (put-replay s long ys e ∙ ap (λ (x : Replay). with_replay (sender_in s) x) f, replay-keeps s long ys e)

  -- ---- a queue

  module _ (channel : ℕ) (here : channel < channels) where
    abbrev wide : ℕ
    wide = counted (list_words * channel) list_words

    pub queue-read : packets_in (take wide (drop (list_words * channel) s)) ≡ queue_at (sender_in s) channel
    queue-read = rw (counts (list_words * channel) list_words) (queue_is s long channel here)

    pub queue-back : (ys : List ℕ) (q : Packets) → length ys ≡ list_words → packets_in ys ≡ q
        → (sender_in (put_mid (list_words * channel) wide s ys) ≡ with_queue (sender_in s) channel q)
        × (length (put_mid (list_words * channel) wide s ys) ≡ sender_words)
    queue-back ys q e f =
        rw (counts (list_words * channel) list_words, back_patched s (list_words * channel) list_words ys e) (
          put-queue s long channel ys here e ∙ ap (λ (x : Packets). with_queue (sender_in s) channel x) f,
          queue-keeps s long channel ys here e,
        )

  -- there are no more
  queues_four : length (sender_in s).queues ≡ channels
  unfolding sender_in cut
  queues_four = refl

  module _ (channel : ℕ) (past : channels ≤ channel) where
    pub none_waits : (c : Category) → length (of_category c (held (queue_at (sender_in s) channel))) ≡ 0
    none_waits c = rw (get_or-eq_default (sender_in s).queues empty {n = channel} (omega (arith, queues_four)))

    pub none-joins : (p : Packet) → sender_in s ≡ submitted (sender_in s) channel p
    unfolding submitted
    none-joins p = rw (set_out (sender_in s).queues channel (pushed (queue_at (sender_in s) channel) p) (omega (arith, queues_four)))

  -- ---- Timer

  pub timer-not : get_or s 244 0 ≡ 0 → (23 ≡ (timer_of (sender_in s)).answer) × (sender_in s ≡ (timer_of (sender_in s)).sender)
  timer-not e = rw (timer-refused (sender_in s) (sym (out_is s long) ∙ e)) (refl, refl)

  pub timer_goes : (t : List ℕ) → get_or s 244 0 ≢ 0 → sender_in t ≡ with_replay (sender_in s) (begun (sender_in s).replay)
      → (0 ≡ (timer_of (sender_in s)).answer) × (sender_in t ≡ (timer_of (sender_in s)).sender)
  timer_goes t h e = rw (timer_starts (sender_in s) (λ z. h (out_is s long ∙ z))) (refl, e)

  -- ---- what a channel would send

  pub chosen-read : (channel : ℕ) → channel < channels
      → chosen (map credit_in (take (counted (credits_at + 3 * channel) 3) (drop (credits_at + 3 * channel) s)))
      (held (packets_in (take (counted (list_words * channel) list_words) (drop (list_words * channel) s))))
      ≡ chosen_in (sender_in s) channel
  chosen-read channel h =
      let k = credits_at + 3 * channel in
      let q = held (packets_in (part s (list_words * channel) (counted (list_words * channel) list_words))) in
      ap (λ (n : ℕ). chosen (map credit_in (part s k n)) q) (counts k 3)
      ∙ ap (λ (x : List Credit). chosen x q) (credits_are s long channel h)
      ∙ ap (λ (x : Packets). chosen (credits_of (sender_in s) channel) (held x)) (queue-read channel h)

  pub new_none : buffer_bound ≤ get_or s 244 0 → None ≡ new_of (sender_in s)
  unfolding new_of
  new_none h = simp (new_of, le-ltb _ _ (rw (out_is s long) at h))

  pub new_sought : get_or s 244 0 < buffer_bound → new_of (sender_in s) ≡ highest (sender_in s) channels
  unfolding new_of
  new_sought h = simp (new_of, lt-ltb _ _ (rw (out_is s long) at h))

  -- ---- a credit, at the place that the code counts: behind those of the earlier channels, by the category's number

  module _ (channel n : ℕ) (c : Category) (here : channel < channels) (number : n ≡ number_of c) where
    slot_at : credits_at + 3 * channel + n ≡ credits_at + slot_of channel c
    slot_at = omega arith

    pub credit-read : credit_in (get_or s (credits_at + 3 * channel + n) 0) ≡ credit_at (sender_in s) (slot_of channel c)
    credit-read = rw slot_at (credit-is s long (slot_of channel c) (slot_below channel c here))

    pub credit-back : (w : ℕ) (x : Credit) → credit_in w ≡ x
        → (sender_in (set s (credits_at + 3 * channel + n) w) ≡ with_credit (sender_in s) (slot_of channel c) x)
        × (length (set s (credits_at + 3 * channel + n) w) ≡ sender_words)
    credit-back w x e =
        rw slot_at (
          put-credit s long (slot_of channel c) w (slot_below channel c here) ∙ ap (λ (y : Credit). with_credit (sender_in s) (slot_of channel c) y) e,
          set_keeps s long (credits_at + slot_of channel c) w,
        )

  -- ---- the replay buffer and the two numbers

  pub buffer_back : (ys : List ℕ) (q : Packets) → length ys ≡ list_words → packets_in ys ≡ q
      → (sender_in (put_mid buffer_at list_words s ys)
      ≡ with_buffer (sender_in s) q)
      × (length (put_mid buffer_at list_words s ys) ≡ sender_words)
  buffer_back ys q e f =
      rw (back_patched s buffer_at list_words ys e) (
        put_buffer s long ys e
            ∙ ap (λ (x : Packets). with_buffer (sender_in s) x) f,
        buffer_keeps s long ys e,
      )

  pub buffer_read : packets_in (part s buffer_at list_words) ≡ (sender_in s).buffer
  unfolding sender_in
  buffer_read = refl

  pub acked-read : seq_in (get_or s acked_at 0) ≡ (sender_in s).acked
  unfolding sender_in
  acked-read = refl

  next-read : seq_in (get_or s next_at 0) ≡ (sender_in s).next
  unfolding sender_in
  next-read = refl

  pub next-back : (w : ℕ) (x : Seq) → seq_in w ≡ x → x ≡ next_of (seq_in (get_or s next_at 0))
      → (sender_in (set s next_at w)
      ≡ with_next (sender_in s) (next_of (sender_in s).next))
      × (length (set s next_at w) ≡ sender_words)
  next-back w x is e = (
    put_next s long w ∙ ap (with_next (sender_in s)) (is ∙ e ∙ ap next_of next-read),
    set_keeps s long next_at w,
  )

  pub acked-back : (w : ℕ) (x : Seq) → seq_in w ≡ x
      → (sender_in (set s acked_at w)
      ≡ with_acked (sender_in s) x)
      × (length (set s acked_at w) ≡ sender_words)
  acked-back w x is = (put-acked s long w ∙ ap (with_acked (sender_in s)) is, set_keeps s long acked_at w)

  -- ---- the replay goes on

  pub replay_goes : (run : Replay) (place : Option ℕ) (i : ℕ) → run ≡ (sender_in s).replay → place ≡ place_after i (get_or s 244 0)
      → replay place run.count run.retrains
      ≡ replay (place_after i (sender_in s).buffer.len) (sender_in s).replay.count (sender_in s).replay.retrains
  replay_goes run place i e f = rw (f, e, out_is s long)

-- ---- a new packet leaves: its queue, then its credit, then the buffer, then the number

pub spent-same : (a b : Credit) (x y : Counts) → a ≡ b → x ≡ y → spent a x ≡ spent b y
spent-same a b x y e f = rw (e, f)

module _ (a : Sender) (channel place : ℕ) (here : channel < channels) where
  made : Packet → Sender
  made p =
      sender
      (set a.queues channel (removed (queue_at a channel) place))
      (set a.credits (slot_of channel (category_of p)) (spent (credit_at a (slot_of channel (category_of p))) (need_of p)))
      (pushed a.buffer p)
      (next_of a.next)
      a.acked
      a.replay

  sent_made : made (new_packet a channel place) ≡ sent_new a channel place
  unfolding sent_new made
  sent_made = simp (sent_new, lt-ltb channel channels here)

  pub sent-steps : (b c d e : Sender) (p : Packet) → p ≡ new_packet a channel place
      → b ≡ with_queue a channel (removed (queue_at a channel) place)
      → c ≡ with_credit b (slot_of channel (category_of p)) (spent (credit_at b (slot_of channel (category_of p))) (need_of p))
      → d ≡ with_buffer c (pushed c.buffer p)
      → e ≡ with_next d (next_of d.next)
      → e ≡ sent_new a channel place
  unfolding made
  sent-steps b c d e p it q k o n =
      let spends : Sender → Sender = λ (x : Sender). with_credit x (slot_of channel (category_of p)) (spent (credit_at x (slot_of channel (category_of p))) (need_of p)) in
      let enters : Sender → Sender = λ (x : Sender). with_buffer x (pushed x.buffer p) in
      n ∙ ap (λ (x : Sender). with_next x (next_of x.next)) (o ∙ ap enters (k ∙ ap spends q)) ∙ ap made it ∙ sent_made
