-- What a link message does at the sending half, in the steps that the code takes.
-- Where words are named, the half has all of them. Assumes nothing else.
use Rattle.std.specs.Prelude.{Option, ℕ, if◌then◌else◌}
use Prim.Native.Nat.{ℕ, ◌<◌}
use mathlib.Core.Path.{◌≡◌, refl, sym, ap, ◌∙◌}
use mathlib.Core.Logic.{◌≢◌}
use mathlib.Core.Bool.{Bool, true, false}
use mathlib.Core.List.{List}
use borrow.Author.Tests.{lt-ltb, eq-eqb, ne_eqb}
use borrow.Rule.Slice.PartMut.{put_mid}
use lib.ListN.{length, get_or, set, length-set}
use Rattle.counters.specs.declared.Counts.{Counts}
use Rattle.counters.specs.declared.Retrain.{Retrain}
use Rattle.counters.specs.declared.Seq.{Seq}
use Rattle.counters.specs.Wrapped.{minus}
use Rattle.counters.specs.Counters.{seq, seq_range, ack_answer, update_answer}
use Rattle.credits.specs.declared.Credit.{Credit}
use Rattle.credits.specs.Credits.{updated}
use Rattle.packets.specs.declared.Category.{Category}
use Rattle.packets.specs.Packets.{slot_of}
use Rattle.store.specs.Store.{released}
use Rattle.setup.specs.Setup.{channels}
use Rattle.sender.specs.declared.Replay.{Replay}
use Rattle.sender.specs.declared.Sender.{Sender}
use Rattle.sender.specs.Sender.{Told}
use Rattle.sender.specs.Sender.{replay, sender, credit_at, with_credit, with_replay, begun, told}
use Rattle.hearing.specs.Hearing.{releases, moved, acknowledged, again, limited, answered}
use Rattle.words.specs.Words.{seq_in}
use Rattle.words.specs.Memory.{list_words, buffer_at, acked_at, sender_words, sender_in}
use Rattle.words.proofs.Patched.{back_patched}
use Rattle.words.proofs.Sending.{buffer_keeps, out_is}
use Rattle.memory.proofs.SendingLaws.{with_buffer, with_acked, acked-read}

-- ---- what is answered and left

pub told_as : (t u : Told) (r : ℕ) (b : Sender) → t ≡ u → (r ≡ u.answer) × (b ≡ u.sender) → (r ≡ t.answer) × (b ≡ t.sender)
told_as t u r b e f = (f.0 ∙ ap (λ (x : Told). x.answer) (sym e), f.1 ∙ ap (λ (x : Told). x.sender) (sym e))

-- a refusal with one number has that number
only : (b : Bool) (r n : ℕ) → r ≡ (if b then 0 else n) → r ≢ 0 → r ≡ n
only true r n e h = absurd (h e)
only false r n e h = e

-- ---- the words that an Ack or Nak reads

module _ (s : List ℕ) (long : length s ≡ sender_words) where
  pub releases-read : (number x y : Seq) → x ≡ seq_in (get_or s acked_at 0) → y ≡ seq (minus seq_range number.0 x.0) → y.0 ≡ releases (sender_in s) number
  releases-read number x y e f =
      ap (λ (z : Seq). z.0) f ∙ ap (λ (z : Seq). minus seq_range number.0 z.0) (e ∙ acked-read s long)

  pub released-long : (ys : List ℕ) (w : ℕ) → length ys ≡ list_words → length (set (put_mid buffer_at list_words s ys) acked_at w) ≡ sender_words
  released-long ys w e = length-set (put_mid buffer_at list_words s ys) acked_at w ∙ rw (back_patched s buffer_at list_words ys e) (buffer_keeps s long ys e)

  pub answer-read : (number x : Seq) (r : ℕ) → x ≡ seq_in (get_or s acked_at 0) → r ≡ ack_answer x (get_or s 244 0) number
      → r ≡ ack_answer (sender_in s).acked (sender_in s).buffer.len number
  answer-read number x r e f =
      f
      ∙ ap (λ (z : Seq). ack_answer z (get_or s 244 0) number) (e ∙ acked-read s long)
      ∙ ap (λ (n : ℕ). ack_answer (sender_in s).acked n number) (out_is s long)

  -- a Nak starts a replay, if anything is left
  pub again-not : get_or s 244 0 ≡ 0 → sender_in s ≡ again (sender_in s)
  unfolding again
  again-not e = simp (again, eq-eqb (sender_in s).buffer.len 0 (sym (out_is s long) ∙ e))

  pub again_goes : (t : List ℕ) → get_or s 244 0 ≢ 0 → sender_in t ≡ with_replay (sender_in s) (begun (sender_in s).replay) → sender_in t ≡ again (sender_in s)
  unfolding again
  again_goes t h e = e ∙ simp (again, ne_eqb (sender_in s).buffer.len 0 (λ z. h (out_is s long ∙ z)))

-- ---- an accepted number: the buffer is released, then the number stored, then the replay moved

module _ (a : Sender) (number : Seq) where
  left : ℕ → Option ℕ → Retrain → Sender
  left k place retrains = sender a.queues a.credits (released a.buffer k) a.next number (replay place 0 retrains)

  pub acknowledged-steps : (b c d : Sender) (k : ℕ) (place : Option ℕ) (run : Replay) → run ≡ a.replay → k ≡ releases a number
      → b ≡ with_buffer a (released a.buffer k)
      → place ≡ moved k b.buffer.len run.at
      → c ≡ with_acked b number
      → d ≡ with_replay c (replay place 0 run.retrains)
      → d ≡ acknowledged a number
  unfolding acknowledged left
  acknowledged-steps b c d k place run r e q p n o =
      o
      ∙ ap (λ (x : Sender). with_replay x (replay place 0 run.retrains)) (n ∙ ap (λ (x : Sender). with_acked x number) q)
      ∙ ap (λ (x : Option ℕ). left k x run.retrains) (p ∙ ap (λ (x : Sender). moved k x.buffer.len run.at) q)
      ∙ ap (λ (x : Replay). left k (moved k (released a.buffer k).len x.at) x.retrains) r
      ∙ ap (λ (j : ℕ). left j (moved j (released a.buffer j).len a.replay.at) a.replay.retrains) e

-- ---- an Ack or Nak

module _ (a : Sender) (number : Seq) (nak : Bool) (r : ℕ) (e : r ≡ ack_answer a.acked a.buffer.len number) where
  pub answered-not : r ≢ 0 → (r ≡ (answered a number nak).answer) × (a ≡ (answered a number nak).sender)
  unfolding answered
  answered-not h = told_as (answered a number nak) (told a 24) r a (simp (answered, ne_eqb _ _ (rw e at h))) (only _ r 24 e h, refl)

  module _ (h : r ≡ 0) (b : Sender) (f : b ≡ acknowledged a number) where
    pub answered-nak : (c : Sender) → nak ≡ true → c ≡ again b → (0 ≡ (answered a number nak).answer) × (c ≡ (answered a number nak).sender)
    unfolding answered
    answered-nak c n g =
        told_as (answered a number nak) (told (again (acknowledged a number)) 0) 0 c (simp (answered, eq-eqb _ _ (sym e ∙ h), n)) (refl, g ∙ ap again f)

    pub answered-ack : nak ≡ false → (0 ≡ (answered a number nak).answer) × (b ≡ (answered a number nak).sender)
    unfolding answered
    answered-ack n = told_as (answered a number nak) (told (acknowledged a number) 0) 0 b (simp (answered, eq-eqb _ _ (sym e ∙ h), n)) (refl, f)

-- ---- an update

module _ (a : Sender) (channel : ℕ) (c : Category) (limits : Counts) where
  module _ (here : channel < channels) (x : Credit) (e : x ≡ credit_at a (slot_of channel c)) (r : ℕ) (f : r ≡ update_answer x.limit limits) where
    asked : r ≡ update_answer (credit_at a (slot_of channel c)).limit limits
    asked = f ∙ ap (λ (y : Credit). update_answer y.limit limits) e

    pub limited-not : r ≢ 0 → (r ≡ (limited a channel c limits).answer) × (a ≡ (limited a channel c limits).sender)
    unfolding limited update_answer
    limited-not h =
        told_as (limited a channel c limits) (told a 25) r a (simp (limited, lt-ltb channel channels here, ne_eqb _ _ (rw asked at h))) (only _ r 25 f h, refl)

    pub limited_goes : r ≡ 0 → (b : Sender) → b ≡ with_credit a (slot_of channel c) (updated x limits)
        → (0 ≡ (limited a channel c limits).answer) × (b ≡ (limited a channel c limits).sender)
    unfolding limited
    limited_goes h b g =
        told_as (limited a channel c limits) (told (with_credit a (slot_of channel c) (updated (credit_at a (slot_of channel c)) limits)) 0) 0 b
        (simp (limited, lt-ltb channel channels here, eq-eqb _ _ (sym asked ∙ h)))
        (refl, g ∙ ap (λ (y : Credit). with_credit a (slot_of channel c) (updated y limits)) e)
