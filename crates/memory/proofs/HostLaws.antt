-- Laws of an end in its host's memory: its parts read and written anew, and from a step of a part to the step of the end that is promised.
-- Assumes of most that the memory has all words of an end and its setup.
use Rattle.std.specs.Prelude.{Option, Some, None, Result, Ok, Err, is_ok}
use Prim.Native.Nat.{ℕ, ◌≤◌}
use mathlib.Core.Path.{◌≡◌, refl, sym, ap, ◌∙◌}
use mathlib.Core.Bool.{Bool}
use mathlib.Core.List.{List, ◌++◌, map}
use native.Mathlib.Omega.{arith}
use borrow.Author.Tests.{eq-eqb}
use lib.Dec.{eqb}
use lib.ListN.{length, take, drop, set, length-set}
use lib.Seq.{take-take, get_or-set_same}
use Rattle.answers.specs.declared.Refusal.{Refusal}
use Rattle.answers.specs.Answers.{answer_of}
use Rattle.answers.proofs.Outcomes.{no_refusal_is_0, accepts}
use Rattle.basics.specs.Parts.{part}
use Rattle.frames.specs.declared.Frame.{Frame}
use Rattle.setup.specs.declared.Setup.{Setup}
use Rattle.setup.specs.Setup.{slots}
use Rattle.sender.specs.declared.Sender.{Sender}
use Rattle.receiver.specs.declared.Receiver.{Receiver}
use Rattle.ends.specs.Sends.{Sent}
use Rattle.ends.specs.declared.End.{End}
use Rattle.ends.specs.Sends.{send_of}
use Rattle.ends.specs.Ends.{end}
use Rattle.words.specs.declared.Pairing.{Pairing}
use Rattle.words.specs.Words.{byte_in, units_in, frame_in, head_word, rest_word}
use Rattle.words.specs.Memory.{sender_words, end_words, sender_in, sending_in, receiving_in, end_in}
use Rattle.words.proofs.Patched.{patched, back_patched, length_patched, part_same, part-before, part-after, part-set-after}
use Rattle.memory.specs.declared.Given.{Given}
use Rattle.memory.specs.declared.Source.{Source}
use Rattle.memory.specs.declared.hosts.Said.{Said}
use Rattle.memory.specs.declared.hosts.Sending.{Sending}
use Rattle.memory.specs.Sources.{source_of, frame_from, sender_after, receiver_after, detail_from}
use Rattle.memory.specs.Hosted.{setup_words, units_place, setup_in, hosted_words, link_in, hosted_in, is_hosted, Leaves, sending, sending_by, sent_in}
use Rattle.memory.specs.Said.{said_of, Keeps}
use Rattle.memory.proofs.KeepLaws.{made, keeps-back}
use Rattle.memory.proofs.SourceLaws.{sent_from, sends_as}

module _ (m : List ℕ) (long : length m ≡ hosted_words) where
  -- ---- the sending half

  pub sending_is : (hosted_in m).sender ≡ sender_in (part m 0 sender_words)
  unfolding hosted_in end_in
  sending_is = ap sender_in (take-take sender_words end_words m (omega arith))

  -- ---- the end or its setup written anew

  module _ (ys : List ℕ) where
    pub puts_end : length ys ≡ end_words → hosted_in (patched m 0 ys) ≡ end_in (link_in m) ys
    unfolding hosted_in
    puts_end e = rw (part_same m 0 ys (omega arith) end_words e, part-after m 0 ys (omega arith) end_words setup_words (omega arith))

    pub puts_setup : length ys ≡ setup_words → hosted_in (patched m end_words ys) ≡ end_in (setup_in ys) (part m 0 end_words)
    unfolding hosted_in
    puts_setup e = rw (part-before m end_words ys (omega arith) 0 end_words (omega arith), part_same m end_words ys (omega arith) setup_words e)

-- ---- what a step of the end's words leaves

module _ (m : List ℕ) (long : length m ≡ hosted_words) (answer : ℕ) (made : Bool) (is : made ≡ eqb answer 0) (ys : List ℕ) (e : End) where
  pub leaves : end_in (link_in m) ys ≡ e → length ys ≡ end_words → Keeps made (part m 0 end_words) ys → Leaves (is_hosted m) answer m (ys ++ drop end_words m) e
  leaves after k keeps =
      let back = back_patched m 0 end_words ys k in (
        λ _. ap hosted_in back ∙ puts_end m long ys k ∙ after,
        (keeps-back m 0 end_words ys (eqb answer 0) (rw is at keeps), ap length back ∙ length_patched m 0 ys (omega arith)),
      )

-- a step is made exactly where its answer is 0
pub answers_0 : {T : Type 0} (r : Result T Refusal) (n : ℕ) → n ≡ answer_of r → is_ok r ≡ eqb n 0
answers_0 r n e = rw e (accepts r)

pub says_0 : (r : Result ℕ Refusal) (s : Said) → s ≡ said_of r → is_ok r ≡ eqb s.answer 0
says_0 (Ok x) s e = rw e refl
says_0 (Err f) s e = rw (e, no_refusal_is_0 f) refl

-- ---- Send

module _ (m : List ℕ) (long : length m ≡ hosted_words) (x : Option Source)
    (ex : x ≡ source_of (sending_in (part m 0 end_words)) (receiving_in (part m 0 end_words))) where
  is : send_of (hosted_in m) ≡ sent_from (hosted_in m) x
  unfolding hosted_in end_in
  is = sends_as (hosted_in m) ∙ ap (λ (y : Option Source). sent_from (hosted_in m) y) (sym ex)

  abbrev Sends : List ℕ → Sending → Type 0
  Sends w r = (r ≡ sent_in m (send_of (hosted_in m))) × Leaves (is_hosted m) r.answer m w (send_of (hosted_in m)).end

  sends : (s : Sent) → send_of (hosted_in m) ≡ s → (w : List ℕ) (r : Sending) → length w ≡ length m → Keeps (eqb r.answer 0) m w
      → r ≡ sending_by s.frame s.answer s.detail → hosted_in w ≡ s.end → Sends w r
  sends s is w r same keeps told ended =
      (rw (eq-eqb (length m) hosted_words long) (told ∙ ap (λ (x : Sent). sending_by x.frame x.answer x.detail) (sym is)), (λ _. ended ∙ ap (λ (x : Sent). x.end) (sym is), (keeps, same)))

  pub sends_none : x ≡ None → (r : Sending) → r ≡ sending 18 0 0 0 → Sends m r
  sends_none z r e = sends (sent_from (hosted_in m) None) (rw z at is) m r refl (λ _. refl) e refl

  module _ (y : Source) (some : x ≡ Some y) (ys : List ℕ) (l : length ys ≡ end_words) (g : Given)
      (frame : (frame_in g.head g.rest ≡ frame_from (sending_in (part m 0 end_words)) (receiving_in (part m 0 end_words)) y) × (g.detail ≡ detail_from y))
      (halves : (sending_in ys ≡ sender_after (sending_in (part m 0 end_words)) y) × (receiving_in ys ≡ receiver_after (receiving_in (part m 0 end_words)) y))
      (f : Frame) (ef : f ≡ frame_in g.head g.rest) (w : Pairing) (ew : (w.head ≡ head_word f) × (w.rest ≡ rest_word f)) where
    after : hosted_in (patched m 0 ys) ≡ end (hosted_in m).setup (sender_after (hosted_in m).sender y) (receiver_after (hosted_in m).receiver y)
    unfolding hosted_in end_in
    after =
        puts_end m long ys l
        ∙ ap (λ (s : Sender). end (hosted_in m).setup s (receiving_in ys)) halves.0
        ∙ ap (λ (r : Receiver). end (hosted_in m).setup (sender_after (hosted_in m).sender y) r) halves.1

    frame_is : f ≡ frame_from (hosted_in m).sender (hosted_in m).receiver y
    unfolding hosted_in end_in
    frame_is = ef ∙ frame.0

    told : (z : Frame) → f ≡ z → sending 0 g.detail w.head w.rest ≡ sending 0 (detail_from y) (head_word z) (rest_word z)
    told z e = rw (frame.1, ew.0, ew.1, e)

    pub sends_frame : Sends (ys ++ drop end_words m) (sending 0 g.detail w.head w.rest)
    sends_frame =
        rw (back_patched m 0 end_words ys l)
        (sends _ (is ∙ ap (sent_from (hosted_in m)) some) (patched m 0 ys) (sending 0 g.detail w.head w.rest) (length_patched m 0 ys (omega arith)) made
        (told _ frame_is) after)

-- ---- the words of a setup

-- m with ys lent as its k words from a on
abbrev back : List ℕ → ℕ → ℕ → List ℕ → List ℕ
back m a k ys = take a m ++ (ys ++ drop k (drop a m))

module _ (x : List ℕ) (long : length x ≡ setup_words) (s : Setup) (w : ℕ) (cs us : List ℕ) (lc : length cs ≡ 7) (lu : length us ≡ slots) where
  first : length (patched x 1 cs) ≡ setup_words
  first = length_patched x 1 cs (omega arith) ∙ long

  second : length (patched (patched x 1 cs) units_place us) ≡ setup_words
  second = length_patched (patched x 1 cs) units_place us (rw first (omega arith)) ∙ first

  read : byte_in w ≡ s.n → map byte_in cs ≡ s.classes → map units_in us ≡ s.units → setup_in (set (patched (patched x 1 cs) units_place us) 0 w) ≡ s
  unfolding setup_in
  read en ec eu =
      let at : units_place ≤ length (patched x 1 cs) = rw first (omega arith) in
      let y = patched (patched x 1 cs) units_place us in
      rw (
        get_or-set_same y 0 w 0 (rw second (omega arith)),
        part-set-after y 1 7 0 w (omega arith),
        part-set-after y units_place slots 0 w (omega arith),
        part-before (patched x 1 cs) units_place us at 1 7 (omega arith),
        part_same x 1 cs (omega arith) 7 lc,
        part_same (patched x 1 cs) units_place us at slots lu,
        en,
        ec,
        eu,
      )

  -- written part by part: the classes, then the units, then n
  pub setup_stored : byte_in w ≡ s.n → map byte_in cs ≡ s.classes → map units_in us ≡ s.units
      → (setup_in (set (back (back x 1 7 cs) units_place slots us) 0 w) ≡ s) × (length (set (back (back x 1 7 cs) units_place slots us) 0 w) ≡ setup_words)
  setup_stored en ec eu =
      rw (back_patched x 1 7 cs lc, back_patched (patched x 1 cs) units_place slots us lu)
      (read en ec eu, length-set (patched (patched x 1 cs) units_place us) 0 w ∙ second)

-- ---- the end, and its setup behind it

pub hosted_stored : (m : List ℕ) → length m ≡ hosted_words → (e : End) (xs ys : List ℕ) → (end_in e.setup xs ≡ e) × (length xs ≡ end_words)
    → (setup_in ys ≡ e.setup) × (length ys ≡ setup_words)
    → hosted_in (back (back m 0 end_words xs) end_words setup_words ys) ≡ e
hosted_stored m long e xs ys h k =
    let l : length (patched m 0 xs) ≡ hosted_words = length_patched m 0 xs (omega (arith, h.1)) ∙ long in
    rw (back_patched m 0 end_words xs h.1, back_patched (patched m 0 xs) end_words setup_words ys k.1)
    (puts_setup (patched m 0 xs) l ys k.1 ∙ rw (part_same m 0 xs (omega arith) end_words h.1, k.0) h.0)
