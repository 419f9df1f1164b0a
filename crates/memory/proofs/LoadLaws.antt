-- Laws of an array that is read from a memory place by place, and of the halves and the pair read from their parts.
-- Assumes of the halves and the pair that they have all their words.
use Rattle.std.specs.Prelude.{if◌then◌else◌}
use Prim.Native.Nat.{ℕ, zero, suc, ◌+◌, ◌*◌, ◌≤◌, ◌<◌}
use mathlib.Core.Path.{◌≡◌, refl, sym, ap, ◌∙◌}
use mathlib.Core.List.{List, [], ◌∷◌, ◌++◌, map, append-nil}
use native.Mathlib.Omega.{arith}
use borrow.Author.Tests.{eq-eqb}
use lib.Dec.{eqb}
use lib.ListN.{length, get_or, take, drop, take-append-drop}
use lib.Seq.{take-length, drop-length, drop-nil, length-take-le}
use Rattle.std.specs.Array.{IsFromFnResult, IsFromFnResultFrom}
use Rattle.std.proofs.lemmas.List.{ext_get_or}
use denote.Param.Members.{Mut, Called}
use Rattle.basics.specs.Parts.{part}
use Rattle.basics.proofs.Each.{by_order_lem}
use Rattle.basics.proofs.Places.{get_or_any}
use Rattle.counters.specs.declared.Seq.{Seq}
use Rattle.credits.specs.declared.Credit.{Credit}
use Rattle.credits.specs.declared.Room.{Room}
use Rattle.line.specs.declared.Line.{Line}
use Rattle.line.specs.Line.{slot}
use Rattle.setup.specs.declared.Setup.{Setup}
use Rattle.basics.proofs.Branches.{by_test}
use Rattle.pairs.specs.Pairs.{Paired}
use Rattle.setup.specs.Setup.{in_range, channels, per_end, blank_setup}
use Rattle.store.specs.declared.Packets.{Packets}
use Rattle.sender.specs.declared.Replay.{Replay}
use Rattle.sender.specs.Sender.{sender}
use Rattle.receiver.specs.declared.Reply.{Reply}
use Rattle.receiver.specs.Receiver.{receiver}
use Rattle.ends.specs.declared.End.{End}
use Rattle.pairs.specs.declared.Pair.{Pair}
use Rattle.pairs.specs.Pairs.{pair, pair_of, start_of}
use Rattle.words.specs.Words.{credit_in, room_in, seq_in, frame_in}
use Rattle.words.specs.Memory.{list_words, packets_in, lists_in, buffer_at, credits_at, next_at, acked_at, sender_words, sender_in, rooms_at, receiver_words, receiver_in, line_words, slot_in, line_in, end_words, end_in, lines_at, pair_words, pair_in}
use Rattle.words.proofs.Patched.{part-get_or}
use Rattle.words.proofs.Lists.{lists_same}

-- ---- an array made by a call at each place: ys is zs, where each call gives the element of zs at its place and leaves the closure as it was

module _ {F B : Type 0} (g : Mut F (ℕ × Unit {0}) B) (f : F) (ys zs : List B) (d : B) where
  abbrev Gives : ℕ → Type 0
  Gives i = (y : B) (q : F) → Called g f (i, tt) y q → (q ≡ f) × (y ≡ get_or zs i d)

  each_is : (i n : ℕ) → ((j : ℕ) → j < i + n → Gives j) → IsFromFnResultFrom g f ys i n → (j : ℕ) → i ≤ j → j < i + n → get_or ys j d ≡ get_or zs j d
  each_is i zero h r j low high = absurd (omega arith)
  each_is i (suc n) h r j low high =
      let here = h i (omega arith) r.1 r.0 r.3 in
      let rest = rw here.0 at r.4 in
      by_order_lem i j (λ l. each_is (i + 1) n (λ k b. h k (omega arith)) rest j (omega arith) (omega arith))
      (λ l. let e : j ≡ i = omega arith in rw e (r.2.1 d ∙ here.1))

  pub made_of : (n : ℕ) → length zs ≡ n → IsFromFnResult g f ys n → ((i : ℕ) → i < n → Gives i) → ys ≡ zs
  made_of n e r h =
      ext_get_or d ys zs (r.long ∙ sym e) (λ i l. each_is 0 n (λ j b. h j (omega arith)) r.each i (omega arith) (omega (arith, r.long)))

-- ---- a place of a line, from its two words

pub slot_read : (l : List ℕ) (i : ℕ) → slot (frame_in (get_or l (2 * i) 0) (get_or l (2 * i + 1) 0)) ≡ slot_in (part l (2 * i) 2)
slot_read l i =
    let z : 2 * i + 0 ≡ 2 * i = omega arith in
    rw (part-get_or l (2 * i) 2 0 0 (omega arith), part-get_or l (2 * i) 2 1 0 (omega arith), z)

-- ---- all lists of a half, from its front

pub lists_whole : (xs ys : List ℕ) → list_words * channels ≤ length xs → lists_in (xs ++ ys) ≡ lists_in xs
lists_whole xs ys h =
    rw (take-length xs, drop-length xs, drop-nil {A = ℕ} (length ys), append-nil ys) at (lists_same xs ys (length xs) h (omega arith))

lists_front : (m : List ℕ) → list_words * channels ≤ length m → lists_in (part m 0 (list_words * channels)) ≡ lists_in m
lists_front m h =
    let n : ℕ = list_words * channels in
    let l : length (take n m) ≡ n = length-take-le n m h in
    sym (ap lists_in (sym (take-append-drop n m)) ∙ lists_whole (take n m) (drop n m) (omega arith))

-- ---- the halves, from their parts

pub sender-read : (s : List ℕ) → length s ≡ sender_words → (q : List Packets) → q ≡ lists_in (part s 0 (list_words * channels))
    → (b : Packets) → b ≡ packets_in (part s buffer_at list_words) → (k : List Credit) → k ≡ map credit_in (part s credits_at per_end)
    → (n a : Seq) → n ≡ seq_in (get_or s next_at 0) → a ≡ seq_in (get_or s acked_at 0) → (r : Replay) → r ≡ (sender_in s).replay
    → sender q k b n a r ≡ sender_in s
unfolding sender_in
sender-read s long q eq b eb k ek n a en ea r er = rw (eq, lists_front s (omega arith), eb, ek, en, ea, er)

pub receiver-read : (r : List ℕ) → length r ≡ receiver_words → (q : List Packets) → q ≡ lists_in (part r 0 (list_words * channels))
    → (k : List Room) → k ≡ map room_in (part r rooms_at per_end) → (x : Reply) → x ≡ (receiver_in r).reply → receiver q k x ≡ receiver_in r
unfolding receiver_in
receiver-read r long q eq k ek x ex = rw (eq, lists_front r (omega arith), ek, ex)

-- ---- the pair, from its ends and lines; d is what would stand past the setups

pub pair_read : (links : List Setup) (m : List ℕ) (d : Setup) (none : Pair) → length links ≡ 2 → length m ≡ pair_words
    → (a b : End) (k l : Line) → a ≡ end_in (get_or links 0 d) (part m 0 end_words) → b ≡ end_in (get_or links 1 d) (part m end_words end_words)
    → k ≡ line_in (part m lines_at line_words) → l ≡ line_in (part m (lines_at + line_words) line_words)
    → pair (a ∷ b ∷ []) (k ∷ l ∷ []) ≡ (if eqb (length m) pair_words then pair_in links m else none)
unfolding pair_in
pair_read links m d none two long a b k l ea eb ek el =
    rw (eq-eqb (length m) pair_words long, ea, eb, ek, el, get_or_any links 0 d blank_setup (omega arith), get_or_any links 1 d blank_setup (omega arith))

-- where there is no pair, that of the blank setup
pub blank_started : (start_of blank_setup).pair ≡ pair_of blank_setup
unfolding start_of
blank_started = by_test (λ (x : Paired). x.pair ≡ pair_of blank_setup) (in_range blank_setup) (λ t. refl) (λ t. refl)
