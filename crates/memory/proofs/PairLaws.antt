-- The steps of a pair in lent words that use a line, over plain values: an end or a line comes back to the pair's words; Send, Arrive, Damage, Lose.
-- Assumes that the words of the pair are all there, and that there is such an end.
use Rattle.std.specs.Prelude.{Option, Some, None, Result, Err}
use Prim.Native.Nat.{ℕ, zero, suc, ◌+◌, ◌-◌, ◌*◌, ◌<◌, ◌≤◌}
use mathlib.Core.Path.{◌≡◌, refl, sym, ap, ◌∙◌}
use mathlib.Core.Bool.{Bool, true, false}
use mathlib.Core.Logic.{◌≢◌}
use mathlib.Core.List.{List, [], ◌∷◌, ◌++◌}
use native.Mathlib.Nat.{not-suc-le-zero, le_of_suc-le-suc}
use native.Mathlib.Omega.{arith}
use borrow.Author.Tests.{ne_eqb}
use lib.Dec.{eqb}
use Rattle.std.specs.Option.{ok_or}
use lib.ListN.{length, take, drop, get_or, set}
use Rattle.basics.specs.Parts.{part}
use Rattle.answers.specs.declared.Refusal.{Refusal}
use Rattle.answers.specs.Answers.{number_of, answer_of}
use Rattle.frames.specs.declared.Frame.{Frame}
use Rattle.line.specs.declared.Line.{Line}
use Rattle.line.specs.declared.Slot.{Slot}
use Rattle.line.specs.Line.{blank, is_full, put, front_of, rest_of}
use Rattle.setup.specs.declared.Setup.{Setup}
use Rattle.setup.specs.Setup.{blank_setup}
use Rattle.sender.specs.declared.Sender.{Sender}
use Rattle.receiver.specs.declared.Receiver.{Receiver}
use Rattle.ends.specs.declared.End.{End}
use Rattle.ends.specs.Ends.{Stepped}
use Rattle.ends.specs.Ends.{end, damage_of}
use Rattle.ends.specs.Sends.{send_of}
use Rattle.pairs.specs.declared.Pair.{Pair}
use Rattle.pairs.specs.Pairs.{Done}
use Rattle.pairs.specs.Pairs.{pair, done, end_at, line_at, other, send_at, reached, reach_at, lose_at}
use Rattle.pairs.proofs.Ways.{nothing_applies, line_full, goes, none_reaches, one_reaches, none_lost, one_lost}
use Rattle.words.specs.Words.{frame_in}
use Rattle.words.specs.Memory.{end_words, line_words, lines_at, pair_words, sending_in, receiving_in, line_in, end_in, pair_in}
use Rattle.words.proofs.Patched.{patched, back_patched, length_part, part-get_or}
use Rattle.words.proofs.Lines.{len_is, front-is}
use Rattle.words.proofs.Whole.{end_is, line-is, put-end, put-line, end-keeps, line-keeps}
use Rattle.memory.specs.declared.Given.{Given}
use Rattle.memory.specs.declared.hosts.Said.{Said}
use Rattle.memory.specs.declared.Source.{Source}
use Rattle.memory.specs.Said.{said, said_of, said_stepped, said_done}
use Rattle.memory.proofs.KeepLaws.{keeps-back}
use Rattle.memory.specs.Sources.{source_of, frame_from, sender_after, receiver_after, detail_from}
use Rattle.memory.proofs.SourceLaws.{given, sent_from, sends_as}

-- ---- a part lent from place a on, of k words

abbrev pub lent : List ℕ → ℕ → ℕ → List ℕ
lent m a k = part m a (a + k - a)

abbrev pub back : List ℕ → ℕ → ℕ → List ℕ → List ℕ
back m a k ys = take a m ++ (ys ++ drop (a + k - a) (drop a m))

lent_part : (m : List ℕ) (a k : ℕ) → lent m a k ≡ part m a k
lent_part m a k = let e : a + k - a ≡ k = omega arith in rw e

back_at : (m : List ℕ) (a k : ℕ) (ys : List ℕ) → length ys ≡ k → back m a k ys ≡ patched m a ys
back_at m a k ys h = let e : a + k - a ≡ k = omega arith in back_patched m a (a + k - a) ys (h ∙ sym e)

-- where the words of end i and of line i stand
abbrev pub end_at_lem : ℕ → ℕ
end_at_lem i = end_words * i

abbrev line_at_lem : ℕ → ℕ
line_at_lem i = lines_at + line_words * i

-- ---- what a step says and leaves

abbrev pub Does : List Setup → List ℕ → Said → Done → Type 0
Does links w r d = (r ≡ said_done d) × (pair_in links w ≡ d.pair)

pub does_as : (links : List Setup) (w : List ℕ) (r : Said) (d e : Done) → d ≡ e → Does links w r d → Does links w r e
does_as links w r d e q x = rw (sym q) x

abbrev Holds : List Setup → List ℕ → Pair → Type 0
Holds links w p = (pair_in links w ≡ p) × (length w ≡ pair_words)

-- what stands past the end of an array of setups
abbrev no_setup : Setup
no_setup = record { n = 0; classes = []; units = [] }

pub own_setup : (links : List Setup) (i : ℕ) → i < length links → get_or links i no_setup ≡ get_or links i blank_setup
own_setup [] i h = absurd (not-suc-le-zero h)
own_setup (x ∷ links) zero h = refl
own_setup (x ∷ links) (suc i) h = own_setup links i (le_of_suc-le-suc h)

-- ---- an end or a line is lent and comes back

module _ (links : List Setup) (m : List ℕ) (long : length m ≡ pair_words) (i : ℕ) (h : i ≤ 1) where
  module _ (link : Setup) (own : link ≡ get_or links i blank_setup) where
    pub end_lent : end_in link (lent m (end_at_lem i) end_words) ≡ end_at (pair_in links m) i
    end_lent = rw (own, lent_part m (end_at_lem i) end_words) (sym (end_is links m i h))

    pub end_back : (ys : List ℕ) (e : End) → end_in link ys ≡ e → length ys ≡ end_words
        → Holds links (back m (end_at_lem i) end_words ys) (pair (set (pair_in links m).ends i e) (pair_in links m).lines)
    end_back ys e is k =
        let own_is : end_in (get_or links i blank_setup) ys ≡ e = ap (λ (x : Setup). end_in x ys) (sym own) ∙ is in
        rw (back_at m (end_at_lem i) end_words ys k)
        (put-end links m long ys i h k ∙ ap (λ (x : End). pair (set (pair_in links m).ends i x) (pair_in links m).lines) own_is, end-keeps links m long ys i h k)

  pub line_lent : line_in (lent m (line_at_lem i) line_words) ≡ line_at (pair_in links m) i
  line_lent = ap line_in (lent_part m (line_at_lem i) line_words) ∙ sym (line-is links m i h)

  pub line-back : (zs : List ℕ) (l : Line) → line_in zs ≡ l → length zs ≡ line_words
      → Holds links (back m (line_at_lem i) line_words zs) (pair (pair_in links m).ends (set (pair_in links m).lines i l))
  line-back zs l is k =
      rw (back_at m (line_at_lem i) line_words zs k)
      (put-line links m long zs i h k ∙ ap (λ (x : Line). pair (pair_in links m).ends (set (pair_in links m).lines i x)) is, line-keeps links m long zs i h k)

-- an end, and then a line
both-back : (links : List Setup) (m : List ℕ) → length m ≡ pair_words → (i j : ℕ) → i ≤ 1 → j ≤ 1 → (link : Setup) → link ≡ get_or links i blank_setup
    → (ys : List ℕ) (e : End) → end_in link ys ≡ e → length ys ≡ end_words → (f : Line → Line) (zs : List ℕ)
    → (line_in zs ≡ f (line_in (lent (back m (end_at_lem i) end_words ys) (line_at_lem j) line_words))) × (length zs ≡ line_words)
    → Holds links (back (back m (end_at_lem i) end_words ys) (line_at_lem j) line_words zs)
    (pair (set (pair_in links m).ends i e) (set (pair_in links m).lines j (f (line_at (pair_in links m) j))))
both-back links m long i j hi hj link own ys e is k f zs h =
    let b = end_back links m long i hi link own ys e is k in
    let w : List ℕ = back m (end_at_lem i) end_words ys in
    let l = line-back links w b.1 j hj zs (f (line_at (pair_in links w) j)) (h.0 ∙ ap f (line_lent links w b.1 j hj)) h.1 in
    (l.0 ∙ ap (λ (q : Pair). pair q.ends (set q.lines j (f (line_at q j)))) b.0, l.1)

-- ---- the oldest frame on a line

module _ (links : List Setup) (m : List ℕ) (long : length m ≡ pair_words) (i : ℕ) (h : i ≤ 1) where
  abbrev it : Pair
  it = pair_in links m

  abbrev first : Frame
  first = frame_in (get_or m (line_at_lem i) 0) (get_or m (line_at_lem i + 1) 0)

  whole : length (part m (line_at_lem i) line_words) ≡ line_words
  whole = length_part m (line_at_lem i) line_words (omega arith)

  count-is : (line_at it i).len ≡ get_or m (line_at_lem i + 32) 0
  count-is =
      ap (λ (l : Line). l.len) (line-is links m i h) ∙ len_is (part m (line_at_lem i) line_words) whole ∙ part-get_or m (line_at_lem i) line_words 32 0 (omega arith)

  frame_is : (get_or (line_at it i).slots 0 blank).frame ≡ first
  frame_is =
      let z : line_at_lem i + 0 ≡ line_at_lem i = omega arith in
      let x = part-get_or m (line_at_lem i) line_words 0 0 (omega arith) in
      let y = part-get_or m (line_at_lem i) line_words 1 0 (omega arith) in
      ap (λ (l : Line). (get_or l.slots 0 blank).frame) (line-is links m i h)
      ∙ ap (λ (s : Slot). s.frame) (front-is (part m (line_at_lem i) line_words) whole)
      ∙ rw (x, y, z)

  front-none : get_or m (line_at_lem i + 32) 0 ≡ 0 → None ≡ front_of (line_at it i)
  front-none z = let t : (line_at it i).len ≡ 0 = count-is ∙ z in rw t

  front_one : get_or m (line_at_lem i + 32) 0 ≢ 0 → Some first ≡ front_of (line_at it i)
  front_one n =
      let t : eqb (line_at it i).len 0 ≡ false = ne_eqb _ 0 (λ z. n (sym count-is ∙ z)) in
      rw t (ap Some (sym frame_is))

  -- the line is empty
  pub reach_none : (step : End → Frame → Stepped) → get_or m (line_at_lem i + 32) 0 ≡ 0 → Does links m (said 19 0) (reach_at step it i)
  reach_none step z = does_as links m (said 19 0) (done it 19 0) _ (none_reaches it i None (front-none z) step refl) (refl, refl)

  pub lose_none : get_or m (line_at_lem i + 32) 0 ≡ 0 → Does links m (said 19 0) (lose_at it i)
  lose_none z = does_as links m (said 19 0) (done it 19 0) _ (none_lost it i None (front-none z) refl) (refl, refl)

  -- it is not
  module _ (some : get_or m (line_at_lem i + 32) 0 ≢ 0) where
    pub lose_one : (zs : List ℕ) → line_in zs ≡ rest_of (line_in (lent m (line_at_lem i) line_words)) → length zs ≡ line_words
        → Does links (back m (line_at_lem i) line_words zs) (said 0 0) (lose_at it i)
    lose_one zs l k =
        let b = line-back links m long i h zs (rest_of (line_at it i)) (l ∙ ap rest_of (line_lent links m long i h)) k in
        does_as links _ (said 0 0) (done (pair it.ends (set it.lines i (rest_of (line_at it i)))) 0 0) _
        (one_lost it i (Some first) (front_one some) first refl) (refl, b.0)

    module _ (link : Setup) (own : link ≡ get_or links i blank_setup) (step : End → Frame → Stepped) (ys : List ℕ) where
      abbrev lent-step : Stepped
      lent-step = step (end_in link (lent m (end_at_lem i) end_words)) first

      abbrev its-step : Stepped
      its-step = step (end_at it i) first

      step_is : lent-step ≡ its-step
      step_is = ap (λ (e : End). step e first) (end_lent links m long i h link own)

      reaches : reached it i its-step ≡ reach_at step it i
      reaches = one_reaches it i (Some first) (front_one some) step first refl

      -- the end refuses it: all stays
      pub reach_refused : (a : ℕ) → a ≢ 0 → said a 0 ≡ said_stepped lent-step → ys ≡ lent m (end_at_lem i) end_words
          → Does links (back m (end_at_lem i) end_words ys) (said a 0) (reach_at step it i)
      unfolding reached
      reach_refused a n is kept =
          let e : a ≡ its-step.answer = ap (λ (x : Said). x.answer) is ∙ ap (λ (x : Stepped). x.answer) step_is in
          let t : eqb its-step.answer 0 ≡ false = ne_eqb _ 0 (λ z. n (e ∙ z)) in
          let q : reached it i its-step ≡ done it its-step.answer 0 = rw t in
          let w = keeps-back m (end_at_lem i) (end_at_lem i + end_words - end_at_lem i) ys false (λ _. kept) refl in
          does_as links _ (said a 0) (done it its-step.answer 0) _ (sym q ∙ reaches)
          (ap (λ (k : ℕ). said k 0) e, ap (pair_in links) w)

      -- the end takes it: it leaves the line
      pub reach_taken : (detail : ℕ) → said 0 detail ≡ said_stepped lent-step → end_in link ys ≡ lent-step.end → length ys ≡ end_words → (zs : List ℕ)
          → line_in zs ≡ rest_of (line_in (lent (back m (end_at_lem i) end_words ys) (line_at_lem i) line_words)) → length zs ≡ line_words
          → Does links (back (back m (end_at_lem i) end_words ys) (line_at_lem i) line_words zs) (said 0 detail) (reach_at step it i)
      unfolding reached
      reach_taken detail is leaves all zs l k =
          let p : said 0 detail ≡ said_stepped its-step = is ∙ ap said_stepped step_is in
          let a : its-step.answer ≡ 0 = sym (ap (λ (x : Said). x.answer) p) in
          let q : reached it i its-step ≡ done (pair (set it.ends i its-step.end) (set it.lines i (rest_of (line_at it i)))) 0 its-step.detail = rw a in
          let b = both-back links m long i i h h link own ys its-step.end (leaves ∙ ap (λ (x : Stepped). x.end) step_is) all rest_of zs (l, k) in
          does_as links _ (said 0 detail) (done (pair (set it.ends i its-step.end) (set it.lines i (rest_of (line_at it i)))) 0 its-step.detail) _ (sym q ∙ reaches)
          (ap (λ (x : Said). said 0 x.detail) p, b.0)

-- ---- a damaged frame is never refused

pub damage_says : (e : End) (f : Frame) → said 0 4 ≡ said_stepped (damage_of e f)
unfolding damage_of
damage_says e (Frame.Packet number p) = refl
damage_says e (Frame.Message x) = refl

-- ---- Send

module _ (links : List Setup) (m : List ℕ) (long : length m ≡ pair_words) (i : ℕ) (h : i ≤ 1) (x : Option Source)
    (is : x ≡ source_of (sending_in (lent m (end_at_lem i) end_words)) (receiving_in (lent m (end_at_lem i) end_words))) where
  abbrev Sends : List ℕ → Said → Type 0
  Sends w r = (r ≡ said_done (send_at (pair_in links m) i)) × (pair_in links w ≡ (send_at (pair_in links m) i).pair)

  sends_like : (w : List ℕ) (r : Said) (d : Done) → d ≡ send_at (pair_in links m) i → (r ≡ said_done d) × (pair_in links w ≡ d.pair) → Sends w r
  sends_like w r d q k = rw (sym q) k

  abbrev its : End
  its = end_in (get_or links i blank_setup) (lent m (end_at_lem i) end_words)

  other-end : other i ≤ 1
  other-end = omega arith

  sent_is : sent_from its x ≡ send_of (end_at (pair_in links m) i)
  unfolding end_in
  sent_is = ap (sent_from its) is ∙ sym (sends_as its) ∙ ap send_of (end_lent links m long i h (get_or links i blank_setup) refl)

  pub send-none : x ≡ None → (e : Refusal) → Err e ≡ ok_or x Refusal.NoFrame → Sends m (said_of (Err e))
  send-none n e was =
      let a : number_of e ≡ 18 = ap (λ (r : Result Source Refusal). answer_of r) was ∙ rw n refl in
      sends_like m _ (done (pair_in links m) 18 0)
      (nothing_applies (pair_in links m) i (sent_from its None) (ap (sent_from its) (sym n) ∙ sent_is) refl) (ap (λ (k : ℕ). said k 0) a, refl)

  module _ (y : Source) (some : x ≡ Some y) (full : Bool) (line : full ≡ is_full (line_in (lent m (line_at_lem (other i)) line_words))) where
    given_is : given its y ≡ send_of (end_at (pair_in links m) i)
    given_is = ap (sent_from its) (sym some) ∙ sent_is

    line-is_full : is_full (line_at (pair_in links m) (other i)) ≡ full
    line-is_full = ap is_full (sym (line_lent links m long (other i) other-end)) ∙ sym line

    abbrev its-frame : Frame
    its-frame = frame_from its.sender its.receiver y

    pub send_full : full ≡ true → Sends m (said 17 0)
    send_full t =
        sends_like m _ (done (pair_in links m) 17 0)
        (line_full (pair_in links m) i (given its y) given_is its-frame refl (line-is_full ∙ t)) (refl, refl)

    pub send_gives : full ≡ false → (g : Given) (ys : List ℕ)
        → (frame_in g.head g.rest ≡ frame_from (sending_in (lent m (end_at_lem i) end_words)) (receiving_in (lent m (end_at_lem i) end_words)) y) × (g.detail ≡ detail_from y)
        → (sending_in ys ≡ sender_after (sending_in (lent m (end_at_lem i) end_words)) y) × (receiving_in ys ≡ receiver_after (receiving_in (lent m (end_at_lem i) end_words)) y)
        → length ys ≡ end_words → (zs : List ℕ)
        → line_in zs ≡ put (line_in (lent (back m (end_at_lem i) end_words ys) (line_at_lem (other i)) line_words)) (frame_in g.head g.rest) → length zs ≡ line_words
        → Sends (back (back m (end_at_lem i) end_words ys) (line_at_lem (other i)) line_words zs) (said 0 g.detail)
    unfolding end_in
    send_gives t g ys frame halves all zs l k =
        let it = pair_in links m in
        let e : end_in (get_or links i blank_setup) ys ≡ (given its y).end
        = ap (λ (s : Sender). end (get_or links i blank_setup) s (receiving_in ys)) halves.0
        ∙ ap (λ (r : Receiver). end (get_or links i blank_setup) (sender_after (sending_in (lent m (end_at_lem i) end_words)) y) r) halves.1 in
        let b = both-back links m long i (other i) h other-end (get_or links i blank_setup) refl ys (given its y).end e all (λ (q : Line). put q its-frame) zs
        (l ∙ ap (put (line_in (lent (back m (end_at_lem i) end_words ys) (line_at_lem (other i)) line_words))) frame.0, k) in
        sends_like _ (said 0 g.detail) _ (goes it i (given its y) given_is its-frame refl (line-is_full ∙ t))
        (ap (λ (n : ℕ). said 0 n) frame.1, b.0)
