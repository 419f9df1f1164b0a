-- One step of a pair in lent words, over plain values: the steps of one end alone joined, the step by its number, and what is refused before it.
-- Assumes nothing.
use Rattle.std.specs.Prelude.{if◌then◌else◌}
use Prim.Native.Nat.{ℕ, ◌≤◌}
use mathlib.Core.Path.{◌≡◌, refl, sym, ap, ◌∙◌}
use mathlib.Core.Bool.{Bool, true, false}
use mathlib.Core.Logic.{◌≢◌}
use mathlib.Core.List.{List}
use borrow.Author.Tests.{ne_eqb}
use lib.Dec.{eqb}
use lib.ListN.{length, get_or}
use Rattle.packets.specs.declared.Packet.{Packet}
use Rattle.setup.specs.declared.Setup.{Setup}
use Rattle.setup.specs.Setup.{blank_setup}
use Rattle.script.specs.declared.Step.{Step}
use Rattle.ends.specs.declared.End.{End}
use Rattle.ends.specs.Ends.{Stepped}
use Rattle.ends.specs.Ends.{stepped, submit_answer, submit_of, take_at}
use Rattle.pairs.specs.declared.Pair.{Pair}
use Rattle.pairs.specs.Pairs.{end_at, by_end}
use Rattle.pairs.specs.Capped.{capped, capped_packet}
use Rattle.pairs.specs.Steps.{packet_of, act}
use Rattle.pairs.proofs.Caps.{submit-capped, take-capped}
use Rattle.words.specs.Memory.{end_words, pair_words, end_in, pair_in}
use Rattle.memory.specs.declared.hosts.Said.{Said}
use Rattle.memory.specs.Said.{said, said_stepped}
use Rattle.memory.specs.Unasked.{end_step}
use Rattle.memory.proofs.PairLaws.{lent, back, end_at_lem, Does, does_as, end_lent, end_back}

-- ---- a step of one end alone

submit-detail : (e : End) (p : Packet) → (submit_of e p).detail ≡ 0
unfolding submit_of
submit-detail e p = go (eqb (submit_answer e p) 0) _ (submit_answer e p)
  where
    go : (b : Bool) (x : End) (n : ℕ) → (if b then stepped x 0 0 else stepped e n 0).detail ≡ 0
    go true x n = refl
    go false x n = refl

module _ (link : Setup) (m : List ℕ) (t : Step) (w : List ℕ) where
  abbrev it : End
  it = end_in link m

  abbrev Says : Said → Stepped → Type 0
  Says r s = (r ≡ said_stepped s) × (end_in link w ≡ s.end)

  says_as : (r : Said) (s u : Stepped) → s ≡ u → Says r s → Says r u
  says_as r s u e h = rw (sym e) h

  pub is_submit_lem : t.step ≡ 1 → (q : Packet) → q ≡ capped_packet t → (n : ℕ) → (n ≡ (submit_of it q).answer) × (end_in link w ≡ (submit_of it q).end)
      → Says (said n 0) (end_step it t)
  is_submit_lem one q is n h =
      let c : submit_of it q ≡ submit_of it (packet_of t) = ap (submit_of it) is ∙ submit-capped t it in
      let a : n ≡ (submit_of it (packet_of t)).answer = h.0 ∙ ap (λ (s : Stepped). s.answer) c in
      rw one (rw (a, submit-detail it (packet_of t)) refl, h.1 ∙ ap (λ (s : Stepped). s.end) c)

  pub is_take_lem : t.step ≡ 6 → (r : Said) (channel category : ℕ) → channel ≡ capped 255 t.class → category ≡ capped 255 t.kind
      → Says r (take_at it channel category) → Says r (end_step it t)
  is_take_lem six r channel category on of h =
      let c : take_at it channel category ≡ take_at it t.class t.kind = rw (on, of) (take-capped it t.class t.kind) in
      rw six (says_as r (take_at it channel category) (take_at it t.class t.kind) c h)

-- ---- the step by its number

joined : (p : Pair) (i : ℕ) (a b c : Bool) (s u v w : Stepped)
    → by_end p i (if a then s else if b then u else if c then v else w) ≡ (if a then by_end p i s else if b then by_end p i u else if c then by_end p i v else by_end p i w)
joined p i true b c s u v w = refl
joined p i false true c s u v w = refl
joined p i false false true s u v w = refl
joined p i false false false s u v w = refl

by_end_as : (p : Pair) (t : Step) → t.step ≢ 2 → t.step ≢ 3 → t.step ≢ 4 → t.step ≢ 5 → by_end p t.end (end_step (end_at p t.end) t) ≡ act p t
unfolding act
by_end_as p t a b c d =
    rw (ne_eqb t.step 2 a, ne_eqb t.step 3 b, ne_eqb t.step 4 c, ne_eqb t.step 5 d)
    (joined p t.end (eqb t.step 1) (eqb t.step 6) (eqb t.step 7) _ _ _ _)

pub is_alone : (links : List Setup) (m : List ℕ) → length m ≡ pair_words → (t : Step) → t.end ≤ 1
    → t.step ≢ 2 → t.step ≢ 3 → t.step ≢ 4 → t.step ≢ 5 → (link : Setup) → link ≡ get_or links t.end blank_setup → (ys : List ℕ) (r : Said)
    → (r ≡ said_stepped (end_step (end_in link (lent m (end_at_lem t.end) end_words)) t))
    × (end_in link ys ≡ (end_step (end_in link (lent m (end_at_lem t.end) end_words)) t).end)
    → length ys ≡ end_words → Does links (back m (end_at_lem t.end) end_words ys) r (act (pair_in links m) t)
unfolding by_end
is_alone links m long t h a b c d link own ys r k all =
    let p = pair_in links m in
    let e = ap (λ (x : End). end_step x t) (end_lent links m long t.end h link own) in
    let w = end_back links m long t.end h link own ys (end_step (end_at p t.end) t).end (k.1 ∙ ap (λ (s : Stepped). s.end) e) all in
    does_as links _ r (by_end p t.end (end_step (end_at p t.end) t)) _ (by_end_as p t a b c d) (k.0 ∙ ap said_stepped e, w.0)
