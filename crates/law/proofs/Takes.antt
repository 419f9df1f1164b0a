-- One Take at the pair: it is accepted where a packet of its category waits and no posted one is in its way, and refused where none waits;
-- and what it makes of the pair. Assumes nothing.
use Rattle.std.specs.Prelude.{Some, None, Option, ℕ}
use Prim.Native.Nat.{ℕ, ◌+◌, ◌<◌}
use mathlib.Core.Path.{◌≡◌, refl, sym, ap, subst, ◌∙◌}
use mathlib.Core.Logic.{◌⊎◌, inl, inr, ◌≢◌, by_cases}
use mathlib.Core.Bool.{true, false, not}
use mathlib.Core.List.{List, [], ◌∷◌, ◌++◌}
use native.Mathlib.Decide.{ℕ_discrete}
use native.Mathlib.Nat.{le_refl}
use native.Mathlib.Omega.{arith}
use borrow.Author.Tests.{le-leb, le-ltb, eq-eqb, ne_eqb}
use lib.ListN.{length, set, take, drop, length-set}
use lib.Seq.{get_or-set_same, get_or-set_other}
use Rattle.basics.specs.Lists.{all, find}
use Rattle.basics.proofs.Each.{by_order_lem}
use Rattle.basics.proofs.Filters.{filter_none, filter_first, filter-other}
use Rattle.basics.proofs.Finds.{found_first, found_nothing}
use Rattle.packets.specs.declared.Packet.{Packet}
use Rattle.packets.specs.declared.Category.{Category}
use Rattle.packets.specs.declared.Category.TheVariants.{Posted, NonPosted, Completion}
use Rattle.packets.specs.Packets.{number_of, numbered, category_of}
use Rattle.packets.proofs.Numbers.{number_below}
use Rattle.store.specs.Store.{held, at, no_packet, is_of, of_category}
use Rattle.store.proofs.Held.{length-held}
use Rattle.store.proofs.Categories.{same-category, headers-counted}
use Rattle.setup.specs.declared.Setup.{Setup}
use Rattle.setup.specs.Setup.{channels, blank_setup}
use Rattle.receiver.specs.declared.Receiver.{Receiver}
use Rattle.receiver.specs.Receiver.{inbox_at}
use Rattle.delivery.specs.Delivery.{handed_out, is_before, taken_at}
use Rattle.delivery.specs.Delivery as Delivery
use Rattle.delivery.proofs.Takes.{by_category}
use Rattle.receipts.proofs.Changes.{held_handed, inbox_handed_other}
use Rattle.ends.specs.declared.End.{End}
use Rattle.ends.specs.Ends.{Stepped}
use Rattle.ends.specs.Ends.{end, end_of, take_at}
use Rattle.script.specs.Step.{form_by, formed, fields_fit}
use Rattle.pairs.specs.declared.Pair.{Pair}
use Rattle.pairs.specs.Pairs.{pair, end_at, other, by_end}
use Rattle.pairs.specs.Steps.{pair_in_shape, step_of}
use Rattle.pairs.proofs.Acts.{takes}
use Rattle.rounds.specs.Rounds.{take_of}
use Rattle.rows.specs.Rows.{take_step}
use Rattle.views.specs.Views.{usual, Takes, not_handed, hands}
use Rattle.views.proofs.Takes.{take_view}
use Rattle.amounts.specs.Amounts.{Amount, together}
use Rattle.amounts.proofs.Given.{given-none}
use Rattle.direction.specs.Direction.{Past, taking}
use Rattle.direction.proofs.Taking.{take-keeps}
use Rattle.direction.proofs.Bounds.{waiting_fits}
use Rattle.law.proofs.Pairs.{Seen, seen_other, seen_shape, apart}

-- what waits at end i on a channel, and those of a category
abbrev pub waiting_at : Pair → ℕ → ℕ → List Packet
waiting_at p i channel = held (inbox_at (end_at p i).receiver channel)

abbrev pub waiting_of : Category → Pair → ℕ → ℕ → List Packet
waiting_of c p i channel = of_category c (waiting_at p i channel)

-- no posted packet is in the way of category c
abbrev pub Clear : Category → List Packet → Type 0
Clear c ps = (c ≡ Posted) ⊎ (of_category Posted ps ≡ [])

-- ---- categories by their numbers

numbered_is : (c : Category) → Some c ≡ numbered (number_of c)
numbered_is Posted = refl
numbered_is NonPosted = refl
numbered_is Completion = refl

pub number_same : {a b : Category} → number_of a ≡ number_of b → a ≡ b
number_same {a} {b} e = same-category a b (eq-eqb (number_of a) (number_of b) e)

-- a packet of one category is of no other
other-category : (c k : Category) (q : Packet) → c ≢ k → is_of k q ≡ true → is_of c q ≡ false
other-category c k q n e =
    ne_eqb (number_of (category_of q)) (number_of c) (λ z. n (sym (number_same z) ∙ same-category (category_of q) k e))

-- ---- Take at the receiving half

-- of a category of which some are found, some wait
some_found : (c : Category) (ps : List Packet) (i : ℕ) → find (is_of c) ps 0 ≡ Some i → of_category c ps ≢ []
some_found c ps i e none =
    let f = found_first no_packet (is_of c) ps i e in
    omega (arith, ap length (sym none ∙ filter_first (is_of c) ps i no_packet f.0 f.1 f.2))

-- where the way is clear no posted packet stands before the one that is found
not-before : (c : Category) (ps : List Packet) (place : ℕ) → find (is_of c) ps 0 ≡ Some place → Clear c ps → is_before (find (is_of Posted) ps 0) place ≡ false
not-before c ps place e (inl is) =
    let f : find (is_of Posted) ps 0 ≡ Some place = rw is at e in
    rw f (le-ltb place place (le_refl place))
not-before c ps place e (inr none) = go (find (is_of Posted) ps 0) refl
  where
    go : (f : Option ℕ) → find (is_of Posted) ps 0 ≡ f → is_before f place ≡ false
    go None z = refl
    go (Some i) z = absurd (some_found Posted ps i z none)

module _ (r : Receiver) (channel : ℕ) (c : Category) (some : 0 < length (of_category c (held (inbox_at r channel)))) (clear : Clear c (held (inbox_at r channel))) where
  found_handed : (f : Option ℕ) → find (is_of c) (held (inbox_at r channel)) 0 ≡ f → (taken_at r channel c f).answer ≡ 0
  unfolding taken_at
  found_handed None e =
      let q = held (inbox_at r channel) in
      absurd (omega (arith, ap length (filter_none (is_of c) q (found_nothing no_packet (is_of c) q 0 e))))
  found_handed (Some place) e = rw (not-before c (held (inbox_at r channel)) place e clear)

  some_handed : (n : ℕ) → channel < n → channel < channels → (Delivery.take_of r n channel (number_of c)).answer ≡ 0
  some_handed n used here =
      rw (← by_category r n channel (number_of c) used here (Some c) (numbered_is c))
      (found_handed (find (is_of c) (held (inbox_at r channel)) 0) refl)

-- ---- Take at the pair

-- what Takes at end i leave as it was
pub record Aside (p : Pair) (i : ℕ) (p' : Pair) : Type 0 where
  pub it_same : end_at p' (other i) ≡ end_at p (other i)
  pub sender_same : (end_at p' i).sender ≡ (end_at p i).sender
  pub lines_same : p'.lines ≡ p.lines

-- a packet of category c was taken
pub record Taken (near far : Setup) (out back : Past) (p : Pair) (i channel : ℕ) (c : Category) (p' : Pair) : Type 0 where
  pub packet : Packet
  pub seen : Seen near far out (taking back packet) p' i
  pub gone : waiting_of c p i channel ≡ packet ∷ waiting_of c p' i channel
  pub others : (k : Category) → k ≢ c → waiting_of k p' i channel ≡ waiting_of k p i channel
  pub elsewhere : (k : ℕ) → k ≢ channel → inbox_at (end_at p' i).receiver k ≡ inbox_at (end_at p i).receiver k
  pub aside : Aside p i p'

take_form : (i channel : ℕ) (c : Category) → i < 2 → channel < channels → formed (take_step i channel (number_of c)) ≡ true
unfolding form_by fields_fit
take_form i channel c h here =
    rw (le-leb i 1 (omega arith), le-leb channel 4294967295 (omega arith), le-leb (number_of c) 4294967295 (omega (arith, number_below c)))

-- the packet at its place leaves: the oldest of category c
module _ {near far : Setup} {out back : Past} {p : Pair} {i : ℕ} (h : i < 2) (v : Seen near far out back p i) (channel place : ℕ) (c : Category)
    (used : channel < (end_at p i).setup.n) (here : channel < channels) (within : place < length (waiting_at p i channel))
    (of-it : is_of c (at (inbox_at (end_at p i).receiver channel) place) ≡ true)
    (first : all (λ q. not (is_of c q)) (take place (waiting_at p i channel)) ≡ true)
    (in_order : (is_of Posted (at (inbox_at (end_at p i).receiver channel) place) ≡ true) ⊎ (all (λ q. not (is_of Posted q)) (take place (waiting_at p i channel)) ≡ true)) where
  abbrev r : Receiver
  r = (end_at p i).receiver

  abbrev me : End
  me = end (end_at p i).setup (end_at p i).sender (handed_out r channel c place)

  abbrev p' : Pair
  p' = pair (set p.ends i me) p.lines

  me_is : end_at p' i ≡ me
  me_is = get_or-set_same p.ends i me (end_of blank_setup) (omega (arith, v.ends_two))

  it_is : end_at p' (other i) ≡ end_at p (other i)
  it_is = get_or-set_other p.ends i (other i) me (end_of blank_setup) (apart i h)

  held_after : waiting_at p' i channel ≡ take place (waiting_at p i channel) ++ drop (place + 1) (waiting_at p i channel)
  held_after =
      let arrays = v.both.receives.r_arrays in
      let bound = (v.both.receives.receiving.inbox channel here).bound in
      rw me_is (held_handed r arrays channel here c place (omega (arith, length-held (inbox_at r channel) (arrays.inbox_is channel) bound)) bound)

  handed : Taken near far out back p i channel c p'
  handed =
      let b = v.both in
      record {
        packet = at (inbox_at r channel) place;
        seen =
            record {
              ends_two = length-set p.ends i me ∙ v.ends_two;
              lines_two = v.lines_two;
              both =
                  rw (me_is, it_is)
                  record {
                    me_is = b.me_is;
                    it_is = b.it_is;
                    facing = b.facing;
                    to_fits = b.to_fits;
                    from_fits = b.from_fits;
                    sends = b.sends;
                    receives = take-keeps b.receives channel place c (omega (arith, b.facing.n_same)) here within of-it first in_order;
                  };
            };
        gone = rw held_after (filter_first (is_of c) (waiting_at p i channel) place no_packet within of-it first);
        others = λ k n. rw held_after (filter-other (is_of k) (waiting_at p i channel) place no_packet within (other-category k c _ n of-it));
        elsewhere = λ k n. rw me_is (inbox_handed_other r channel k c place n);
        aside = record { it_same = it_is; sender_same = rw me_is; lines_same = refl };
      }

-- Take as a step
module _ {near far : Setup} {out back : Past} {p : Pair} {i : ℕ} (h : i < 2) (v : Seen near far out back p i) (channel : ℕ) (here : channel < channels) (c : Category) where
  -- neither 10 nor 11 nor 6
  take-is : take_of p i channel (number_of c) ≡ by_end p i (take_at (end_at p i) channel (number_of c))
  unfolding take_of step_of
  take-is =
      rw (seen_shape i h v, le-ltb 1 i (omega arith), take_form i channel c h here) (sym (takes p (take_step i channel (number_of c)) refl))

  -- on a channel that is not in use nothing waits
  in_use : 0 < length (waiting_of c p i channel) → channel < (end_at p i).setup.n
  unfolding together
  in_use some =
      by_order_lem channel (end_at p i).setup.n (λ u. u)
      (λ unused.
      let fits = waiting_fits v.both.receives channel c here in
      let none = given-none (end_at p (other i)).setup v.both.facing.there channel c (omega (arith, v.both.facing.n_same)) here in
      absurd (omega (arith, fits.h, ap (λ (a : Amount). a.h) none, headers-counted (waiting_of c p i channel))))

  pub take-accepted : 0 < length (waiting_of c p i channel) → Clear c (waiting_at p i channel) → (take_of p i channel (number_of c)).answer ≡ 0
  unfolding by_end
  take-accepted some clear = rw take-is (some_handed (end_at p i).receiver channel c some clear (end_at p i).setup.n (in_use some) here)

  pub take_takes : (take_of p i channel (number_of c)).answer ≡ 0 → Taken near far out back p i channel c (take_of p i channel (number_of c)).pair
  unfolding by_end
  take_takes = rw take-is (go (take_view (end_at p i) channel (number_of c)))
    where
      of_category_lem : {k : Category} {q : Pair} → k ≡ c → Taken near far out back p i channel k q → Taken near far out back p i channel c q
      of_category_lem e t = rw e at t

      go : {x : Stepped} → Takes (end_at p i) channel (number_of c) x → x.answer ≡ 0 → Taken near far out back p i channel c (by_end p i x).pair
      go (not_handed (usual low high)) e = absurd (omega arith)
      go (hands k place is used below within of-it first in_order) e =
          of_category_lem (number_same is) (handed h v channel place k used here within of-it first in_order)

  pub take-refused : waiting_of c p i channel ≡ [] → (take_of p i channel (number_of c)).answer ≢ 0
  take-refused none e = omega (arith, ap length (sym none ∙ (take_takes e).gone))
