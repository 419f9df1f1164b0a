-- Laws of a memory that is written place by place from an array, and of the halves of an end written part by part.
-- Assumes that the memory has all its words.
use Rattle.std.specs.Prelude.{if◌then◌else◌}
use Prim.Native.Nat.{ℕ, suc, ◌+◌, ◌-◌, ◌*◌, ◌≤◌, ◌<◌}
use mathlib.Core.Path.{◌≡◌, refl, sym, ap, ◌∙◌}
use mathlib.Core.List.{List, [], ◌∷◌, ◌++◌, map}
use native.Mathlib.Numerals.{add-one}
use native.Mathlib.Omega.{arith}
use borrow.Author.Tests.{eq-eqb}
use lib.Dec.{eqb}
use lib.ListN.{length, get_or, take, drop, set, length-set}
use lib.Seq.{take-suc, take-set-le, get_or-set_same}
use Rattle.basics.specs.Parts.{cut}
use Rattle.basics.proofs.Parts.{read_more, listed, listed_all}
use Rattle.basics.proofs.Places.{get_or_any}
use Rattle.setup.specs.declared.Setup.{Setup}
use Rattle.setup.specs.Setup.{channels, per_end, blank_setup}
use Rattle.store.specs.declared.Packets.{Packets}
use Rattle.line.specs.declared.Line.{Line}
use Rattle.line.specs.declared.Slot.{Slot}
use Rattle.line.specs.Line.{slot, blank}
use Rattle.sender.specs.declared.Sender.{Sender}
use Rattle.sender.specs.Sender.{sender, with_replay}
use Rattle.receiver.specs.declared.Receiver.{Receiver}
use Rattle.receiver.specs.Receiver.{receiver, with_reply}
use Rattle.ends.specs.declared.End.{End}
use Rattle.ends.specs.Ends.{end, end_of}
use Rattle.pairs.specs.declared.Pair.{Pair}
use Rattle.pairs.specs.Pairs.{pair, end_at}
use Rattle.words.specs.Words.{packet_in, credit_in, room_in, seq_in, frame_in}
use Rattle.words.specs.Memory.{places, list_words, packets_in, lists_in, buffer_at, credits_at, next_at, acked_at, replay_at, sender_words, replay_in, sender_in, rooms_at, reply_at, receiver_words, reply_in, receiver_in, line_places, line_words, slot_in, line_in, end_words, end_in, lines_at, pair_words, pair_in}
use Rattle.words.proofs.Patched.{patched, back_patched, set_patched, sets_patched, length_patched, part_same, part-after, part-before, get_or_after}
use Rattle.words.proofs.Lists.{read-after, lists_same}
use Rattle.words.proofs.Sending.{put_buffer, put_next, put-acked, put-replay}
use Rattle.words.proofs.Receiving.{put_reply}
use Rattle.words.proofs.Whole.{put-sending, put-receiving, put-end, put-line}
use Rattle.memory.specs.Unasked.{setups_of}
use Rattle.memory.proofs.LoadLaws.{lists_whole}

-- ---- a part of one width each

module _ {A B : Type 0} (f : List A → B) (w : ℕ) (m : List A) (given : List B) (i : ℕ) (is : map f (cut w i m) ≡ take i given) where
  pub part-stored : (ys : List A) (d : B) → f ys ≡ get_or given i d → length ys ≡ w → w * i ≤ length m → i < length given
      → map f (cut w (i + 1) (patched m (w * i) ys)) ≡ take (i + 1) given
  part-stored ys d e wide h room =
      read_more f w i (patched m (w * i) ys)
      ∙ rw (read-after f w i m (w * i) ys (omega arith) h, part_same m (w * i) ys h w wide, is, e, add-one i) (sym (take-suc given i d room))

  -- part i is lent, and comes back as ys
  pub part-back : (ys : List A) (d : B) → f ys ≡ get_or given i d → length ys ≡ w → w * i + w ≤ length m → i < length given
      → (length (take (w * i) m ++ (ys ++ drop (w * i + w - w * i) (drop (w * i) m))) ≡ length m)
      × (map f (cut w (i + 1) (take (w * i) m ++ (ys ++ drop (w * i + w - w * i) (drop (w * i) m)))) ≡ take (i + 1) given)
  part-back ys d e wide h room =
      let k : w * i + w - w * i ≡ length ys = omega arith in
      rw k (length_patched m (w * i) ys (omega arith), part-stored ys d e wide (omega arith) room)

-- the two words of place i of a line
module _ (l : List ℕ) (given : List Slot) (i : ℕ) (is : map slot_in (cut 2 i l) ≡ take i given) where
  pub slot-stored : (a b : ℕ) → frame_in a b ≡ (get_or given i blank).frame → 2 * i + 2 ≤ length l → i < length given
      → map slot_in (cut 2 (i + 1) (set (set l (2 * i) a) (2 * i + 1) b)) ≡ take (i + 1) given
  slot-stored a b e h room =
      let n : suc (2 * i) ≡ 2 * i + 1 = omega arith in
      let p : set (set l (2 * i) a) (2 * i + 1) b ≡ patched l (2 * i) (a ∷ b ∷ []) = rw n at (sets_patched l (2 * i) (a ∷ b ∷ []) (omega arith)) in
      rw p (part-stored slot_in 2 l given i is (a ∷ b ∷ []) blank (ap slot e) refl (omega arith) room)

-- ---- a list and a line: all places, then how many there are

pub packets-stored : (q : List ℕ) (p : Packets) → length q ≡ list_words → map packet_in (take places q) ≡ p.items → packets_in (set q places p.len) ≡ p
packets-stored q p long e =
    rw (take-set-le places q places p.len (omega arith), e, get_or-set_same q places p.len 0 (omega arith))

-- its items are lent, and come back as ys
pub packets-back : (q : List ℕ) → length q ≡ list_words → (p : Packets) (ys : List ℕ) → length ys ≡ places → map packet_in ys ≡ p.items
    → packets_in (set (take 0 q ++ (ys ++ drop places (drop 0 q))) places p.len) ≡ p
packets-back q long p ys few e =
    rw (back_patched q 0 places ys few)
    (packets-stored (patched q 0 ys) p (length_patched q 0 ys (omega arith) ∙ long) (rw (part_same q 0 ys (omega arith) places few) e))

pub line-stored : (l : List ℕ) (x : Line) → length l ≡ line_words → map slot_in (cut 2 line_places l) ≡ x.slots → line_in (set l (2 * line_places) x.len) ≡ x
unfolding line_in
line-stored l x long e =
    rw (
      get_or-set_same l (2 * line_places) x.len 0 (omega arith),
      set_patched l (2 * line_places) x.len (omega arith),
      read-after slot_in 2 line_places l (2 * line_places) (x.len ∷ []) (omega arith) (omega arith),
      e,
    )

-- ---- all lists of a half

lists_put : (m ys : List ℕ) → length ys ≡ list_words * channels → lists_in (patched m 0 ys) ≡ lists_in ys
lists_put m ys e = lists_whole ys (drop (length ys) m) (omega arith)

-- ---- the sending half

module _ (s : List ℕ) (long : length s ≡ sender_words) (ys : List ℕ) where
  put_queues : length ys ≡ list_words * channels
      → sender_in (patched s 0 ys)
      ≡ sender (lists_in ys) (sender_in s).credits (sender_in s).buffer (sender_in s).next (sender_in s).acked (sender_in s).replay
  unfolding sender_in
  put_queues e =
      let l : 0 ≤ length s = omega arith in
      rw (
        lists_put s ys e,
        part-after s 0 ys l credits_at per_end (omega arith),
        part-after s 0 ys l buffer_at list_words (omega arith),
        get_or_after s 0 ys l next_at 0 (omega arith),
        get_or_after s 0 ys l acked_at 0 (omega arith),
        part-after s 0 ys l replay_at 4 (omega arith),
      )

  put_credits : length ys ≡ per_end
      → sender_in (patched s credits_at ys)
      ≡ sender (sender_in s).queues (map credit_in ys) (sender_in s).buffer (sender_in s).next (sender_in s).acked (sender_in s).replay
  unfolding sender_in
  put_credits e =
      let l : credits_at ≤ length s = omega arith in
      rw (
        lists_same s ys credits_at (omega arith) l,
        part_same s credits_at ys l per_end e,
        part-before s credits_at ys l buffer_at list_words (omega arith),
        get_or_after s credits_at ys l next_at 0 (omega arith),
        get_or_after s credits_at ys l acked_at 0 (omega arith),
        part-after s credits_at ys l replay_at 4 (omega arith),
      )

-- ---- the receiving half

module _ (r : List ℕ) (long : length r ≡ receiver_words) (ys : List ℕ) where
  put_inboxes : length ys ≡ list_words * channels
      → receiver_in (patched r 0 ys) ≡ receiver (lists_in ys) (receiver_in r).rooms (receiver_in r).reply
  unfolding receiver_in
  put_inboxes e =
      let l : 0 ≤ length r = omega arith in
      rw (lists_put r ys e, part-after r 0 ys l rooms_at per_end (omega arith), part-after r 0 ys l reply_at 3 (omega arith))

  put_rooms : length ys ≡ per_end → receiver_in (patched r rooms_at ys) ≡ receiver (receiver_in r).inboxes (map room_in ys) (receiver_in r).reply
  unfolding receiver_in
  put_rooms e =
      let l : rooms_at ≤ length r = omega arith in
      rw (lists_same r ys rooms_at (omega arith) l, part_same r rooms_at ys l per_end e, part-after r rooms_at ys l reply_at 3 (omega arith))

-- ---- part after part: what the words mean, and that they stay as many

-- m with ys lent as its k words from a on
abbrev back : List ℕ → ℕ → ℕ → List ℕ → List ℕ
back m a k ys = take a m ++ (ys ++ drop k (drop a m))

module _ {R : Type 0} (read : List ℕ → R) (n : ℕ) where
  abbrev Holds : List ℕ → R → Type 0
  Holds m v = (read m ≡ v) × (length m ≡ n)

  module _ (m : List ℕ) (v : R) (h : Holds m v) (g : R → R) where
    then_part : (a k : ℕ) (ys : List ℕ) → length ys ≡ k → a + k ≤ n → read (patched m a ys) ≡ g (read m) → Holds (back m a k ys) (g v)
    then_part a k ys e room is = rw (back_patched m a k ys e) (is ∙ ap g h.0, length_patched m a ys (omega (arith, h.1)) ∙ h.1)

    then_word : (k w : ℕ) → read (set m k w) ≡ g (read m) → Holds (set m k w) (g v)
    then_word k w is = (is ∙ ap g h.0, length-set m k w ∙ h.1)

module _ (s : List ℕ) (long : length s ≡ sender_words) (x : Sender) (qs bs ks : List ℕ) (n a : ℕ) (rs : List ℕ) where
  pub sender-stored : lists_in qs ≡ x.queues → length qs ≡ buffer_at → packets_in bs ≡ x.buffer → length bs ≡ list_words
      → map credit_in ks ≡ x.credits → length ks ≡ per_end → seq_in n ≡ x.next → seq_in a ≡ x.acked → replay_in rs ≡ x.replay → length rs ≡ 4
      → Holds sender_in sender_words
      (back (set (set (back (back (back s 0 buffer_at qs) buffer_at list_words bs) credits_at per_end ks) next_at n) acked_at a) replay_at 4 rs) x
  sender-stored eq lq eb lb ek lk hn ha er lr =
      let first = then_part sender_in sender_words s (sender_in s) (refl, long)
      (λ (v : Sender). sender (lists_in qs) v.credits v.buffer v.next v.acked v.replay) 0 buffer_at qs lq (omega arith) (put_queues s long qs lq) in
      let second = then_part sender_in sender_words _ _ first
      (λ (v : Sender). sender v.queues v.credits (packets_in bs) v.next v.acked v.replay) buffer_at list_words bs lb (omega arith) (put_buffer _ first.1 bs lb) in
      let third = then_part sender_in sender_words _ _ second
      (λ (v : Sender). sender v.queues (map credit_in ks) v.buffer v.next v.acked v.replay) credits_at per_end ks lk (omega arith) (put_credits _ second.1 ks lk) in
      let fourth = then_word sender_in sender_words _ _ third
      (λ (v : Sender). sender v.queues v.credits v.buffer (seq_in n) v.acked v.replay) next_at n (put_next _ third.1 n) in
      let fifth = then_word sender_in sender_words _ _ fourth
      (λ (v : Sender). sender v.queues v.credits v.buffer v.next (seq_in a) v.replay) acked_at a (put-acked _ fourth.1 a) in
      let last = then_part sender_in sender_words _ _ fifth (λ (v : Sender). with_replay v (replay_in rs)) replay_at 4 rs lr (omega arith) (put-replay _ fifth.1 rs lr) in
      let is : sender (lists_in qs) (map credit_in ks) (packets_in bs) (seq_in n) (seq_in a) (replay_in rs) ≡ x
      = rw (eq, ek, eb, hn, ha, er) in
      (last.0 ∙ is, last.1)

module _ (r : List ℕ) (long : length r ≡ receiver_words) (x : Receiver) (qs ks ys : List ℕ) where
  pub receiver-stored : lists_in qs ≡ x.inboxes → length qs ≡ rooms_at → map room_in ks ≡ x.rooms → length ks ≡ per_end → reply_in ys ≡ x.reply → length ys ≡ 3
      → Holds receiver_in receiver_words (back (back (back r 0 rooms_at qs) rooms_at per_end ks) reply_at 3 ys) x
  receiver-stored eq lq ek lk ey ly =
      let first = then_part receiver_in receiver_words r (receiver_in r) (refl, long)
      (λ (v : Receiver). receiver (lists_in qs) v.rooms v.reply) 0 rooms_at qs lq (omega arith) (put_inboxes r long qs lq) in
      let second = then_part receiver_in receiver_words _ _ first
      (λ (v : Receiver). receiver v.inboxes (map room_in ks) v.reply) rooms_at per_end ks lk (omega arith) (put_rooms _ first.1 ks lk) in
      let last = then_part receiver_in receiver_words _ _ second (λ (v : Receiver). with_reply v (reply_in ys)) reply_at 3 ys ly (omega arith) (put_reply _ second.1 ys ly) in
      let is : receiver (lists_in qs) (map room_in ks) (reply_in ys) ≡ x = rw (eq, ek, ey) in
      (last.0 ∙ is, last.1)

pub end-stored : (m : List ℕ) → length m ≡ end_words → (e : End) (xs ys : List ℕ)
    → sender_in xs ≡ e.sender → length xs ≡ sender_words → receiver_in ys ≡ e.receiver → length ys ≡ receiver_words
    → Holds (end_in e.setup) end_words (back (back m 0 sender_words xs) sender_words receiver_words ys) e
end-stored m long e xs ys es ls er lr =
    let link = e.setup in
    let first = then_part (end_in link) end_words m (end_in link m) (refl, long) (λ (v : End). end link (sender_in xs) v.receiver) 0 sender_words xs ls (omega arith) (put-sending m long xs ls link) in
    let last = then_part (end_in link) end_words _ _ first (λ (v : End). end link v.sender (receiver_in ys)) sender_words receiver_words ys lr (omega arith) (put-receiving _ first.1 ys lr link) in
    let is : end link (sender_in xs) (receiver_in ys) ≡ e = rw (es, er) in
    (last.0 ∙ is, last.1)

-- ---- the pair; d and b are what would stand past its ends and its lines

two : {A : Type 0} (l : List A) (d : A) → length l ≡ 2 → get_or l 0 d ∷ get_or l 1 d ∷ [] ≡ l
unfolding listed
two l d h = listed_all d 2 l h

-- the two ends and the two lines, one after the other
abbrev backs : List ℕ → List ℕ → List ℕ → List ℕ → List ℕ → List ℕ
backs m xs ys ks ls =
    back (back (back (back m 0 end_words xs) end_words end_words ys) lines_at line_words ks) (lines_at + line_words) line_words ls

module _ (m : List ℕ) (long : length m ≡ pair_words) (xs ys ks ls : List ℕ)
    (lx : length xs ≡ end_words) (ly : length ys ≡ end_words) (lk : length ks ≡ line_words) (ll : length ls ≡ line_words) where
  parts_stored : (links : List Setup)
      → Holds (pair_in links) pair_words (backs m xs ys ks ls)
      (pair (set (set (pair_in links m).ends 0 (end_in (get_or links 0 blank_setup) xs)) 1 (end_in (get_or links 1 blank_setup) ys))
      (set (set (pair_in links m).lines 0 (line_in ks)) 1 (line_in ls)))
  parts_stored links =
      let read = pair_in links in
      let first = then_part read pair_words m (read m) (refl, long) (λ (v : Pair). pair (set v.ends 0 (end_in (get_or links 0 blank_setup) xs)) v.lines)
      0 end_words xs lx (omega arith) (put-end links m long xs 0 (omega arith) lx) in
      let second = then_part read pair_words _ _ first (λ (v : Pair). pair (set v.ends 1 (end_in (get_or links 1 blank_setup) ys)) v.lines)
      end_words end_words ys ly (omega arith) (put-end links _ first.1 ys 1 (omega arith) ly) in
      let third = then_part read pair_words _ _ second (λ (v : Pair). pair v.ends (set v.lines 0 (line_in ks)))
      lines_at line_words ks lk (omega arith) (put-line links _ second.1 ks 0 (omega arith) lk) in
      then_part read pair_words _ _ third (λ (v : Pair). pair v.ends (set v.lines 1 (line_in ls)))
      (lines_at + line_words) line_words ls ll (omega arith) (put-line links _ third.1 ls 1 (omega arith) ll)

  module _ (p none : Pair) (d : End) (b : Line) (he : length p.ends ≡ 2) (hl : length p.lines ≡ 2) where
    pub pair-stored : end_in (get_or p.ends 0 d).setup xs ≡ get_or p.ends 0 d → end_in (get_or p.ends 1 d).setup ys ≡ get_or p.ends 1 d
        → line_in ks ≡ get_or p.lines 0 b → line_in ls ≡ get_or p.lines 1 b
        → Holds (pair_in (setups_of p)) (length m) (backs m xs ys ks ls) (if eqb (length m) pair_words then p else none)
    unfolding pair_in
    pair-stored ex ey ek el =
        let first : get_or p.ends 0 d ≡ end_at p 0 = get_or_any p.ends 0 d (end_of blank_setup) (omega arith) in
        let second : get_or p.ends 1 d ≡ end_at p 1 = get_or_any p.ends 1 d (end_of blank_setup) (omega arith) in
        let ends : end_in (end_at p 0).setup xs ∷ end_in (end_at p 1).setup ys ∷ [] ≡ p.ends
        = rw (rw first at ex, rw second at ey) (two p.ends (end_of blank_setup) he) in
        let lines : line_in ks ∷ line_in ls ∷ [] ≡ p.lines = rw (ek, el) (two p.lines b hl) in
        let is : pair (end_in (end_at p 0).setup xs ∷ end_in (end_at p 1).setup ys ∷ []) (line_in ks ∷ line_in ls ∷ []) ≡ p = rw (ends, lines) in
        let all = parts_stored (setups_of p) in
        (rw (eq-eqb (length m) pair_words long) (all.0 ∙ is), all.1 ∙ sym long)
