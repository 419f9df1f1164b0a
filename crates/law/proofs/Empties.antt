-- Take until refused, by category, on a channel and on all channels of an end: then nothing waits there. At most 48 packets wait on a channel, so
-- the 49th Take is refused, if none was before. Assumes nothing.
use Prim.Native.Nat.{ℕ, zero, suc, ◌<◌, ◌≤◌}
use mathlib.Core.Path.{◌≡◌, refl, sym, ap, ◌∙◌}
use mathlib.Core.Logic.{inl, inr, ◌≢◌, by_cases}
use mathlib.Core.List.{List, [], ◌∷◌}
use native.Mathlib.Decide.{ℕ_discrete}
use native.Mathlib.Nat.{le_refl, not-suc-le-zero}
use native.Mathlib.Omega.{arith}
use borrow.Author.Tests.{eqb-true, eqb-false}
use lib.Dec.{eqb}
use lib.ListN.{length}
use Rattle.basics.proofs.Branches.{by_test}
use Rattle.packets.specs.declared.Packet.{Packet}
use Rattle.packets.specs.declared.Category.{Category}
use Rattle.packets.specs.declared.Category.TheVariants.{Posted, NonPosted, Completion}
use Rattle.packets.specs.Packets.{number_of}
use Rattle.store.specs.Store.{held, of_category}
use Rattle.store.proofs.Held.{length-held}
use Rattle.orders.proofs.Orders.{count_parts}
use Rattle.setup.specs.declared.Setup.{Setup}
use Rattle.setup.specs.Setup.{channels}
use Rattle.receiver.specs.Receiver.{inbox_at}
use Rattle.pairs.specs.declared.Pair.{Pair}
use Rattle.pairs.specs.Pairs.{end_at, other}
use Rattle.rounds.specs.Rounds.{take_of, take_until, most_takes, takes_on, takes_below, takes_at}
use Rattle.direction.specs.Direction.{Past, taking}
use Rattle.law.proofs.Pairs.{Seen}
use Rattle.law.proofs.Takes.{waiting_at, waiting_of, Clear, number_same, Aside, Taken, take-accepted, take_takes, take-refused}

-- ---- some Takes at end i

pub record Took (near far : Setup) (out back : Past) (p : Pair) (i : ℕ) (p' : Pair) : Type 0 where
  pub back' : Past
  pub accepted_same : back'.accepted ≡ back.accepted
  pub seen : Seen near far out back' p' i
  pub aside : Aside p i p'

module _ {near far : Setup} {out back : Past} {p : Pair} {i : ℕ} where
  took_none : Seen near far out back p i → Took near far out back p i p
  took_none v =
      record { back' = back; accepted_same = refl; seen = v; aside = record { it_same = refl; sender_same = refl; lines_same = refl } }

  abbrev took_one : {channel : ℕ} {c : Category} {q : Pair} → Taken near far out back p i channel c q → Took near far out back p i q
  took_one t = record { back' = taking back t.packet; accepted_same = refl; seen = t.seen; aside = t.aside }

  took_then : {q r : Pair} (a : Took near far out back p i q) → Took near far out a.back' q i r → Took near far out back p i r
  took_then a b =
      record {
        back' = b.back';
        accepted_same = b.accepted_same ∙ a.accepted_same;
        seen = b.seen;
        aside =
            record {
              it_same = b.aside.it_same ∙ a.aside.it_same;
              sender_same = b.aside.sender_same ∙ a.aside.sender_same;
              lines_same = b.aside.lines_same ∙ a.aside.lines_same;
            };
      }

-- ---- Take until refused

pub record Until (near far : Setup) (out back : Past) (p : Pair) (i channel : ℕ) (c : Category) (p' : Pair) : Type 0 where
  pub took : Took near far out back p i p'
  pub none : waiting_of c p' i channel ≡ []
  pub others : (k : Category) → k ≢ c → waiting_of k p' i channel ≡ waiting_of k p i channel
  pub elsewhere : (k : ℕ) → k ≢ channel → inbox_at (end_at p' i).receiver k ≡ inbox_at (end_at p i).receiver k

none_left : (ps : List Packet) → (0 < length ps → ⊥) → ps ≡ []
none_left [] n = refl
none_left (q ∷ ps) n = absurd (n (omega arith))

-- one Take leaves the way clear
still_clear : {near far : Setup} {out back : Past} {p q : Pair} {i channel : ℕ} {c : Category} → Taken near far out back p i channel c q
    → Clear c (waiting_at p i channel) → Clear c (waiting_at q i channel)
still_clear t (inl is) = inl is
still_clear {c = c} t (inr none) =
    by_cases (ℕ_discrete (number_of Posted) (number_of c))
    (λ e. inl (sym (number_same e)))
    (λ n. inr (t.others Posted (λ e. n (ap number_of e)) ∙ none))

-- one Take, and then others until one is refused
one_more : {near far : Setup} {out back : Past} {p q r : Pair} {i channel : ℕ} {c : Category} (t : Taken near far out back p i channel c q)
    → Until near far out (took_one t).back' q i channel c r → Until near far out back p i channel c r
one_more t u =
    record {
      took = took_then (took_one t) u.took;
      none = u.none;
      others = λ k n. u.others k n ∙ t.others k n;
      elsewhere = λ k n. u.elsewhere k n ∙ t.elsewhere k n;
    }

module _ {near far : Setup} {out : Past} {i : ℕ} (h : i < 2) (channel : ℕ) (here : channel < channels) (c : Category) where
  pub until_none : (m : ℕ) {back : Past} {p : Pair} → Seen near far out back p i → length (waiting_of c p i channel) < m → Clear c (waiting_at p i channel)
      → Until near far out back p i channel c (take_until m p i channel (number_of c))
  unfolding take_until
  until_none zero v few clear = absurd (not-suc-le-zero few)
  until_none (suc m) {back} {p} v few clear =
      let d = take_of p i channel (number_of c) in
      by_test (λ q. Until near far out back p i channel c q) (eqb d.answer 0)
      (λ e.
      let t = take_takes h v channel here c (eqb-true d.answer 0 e) in
      one_more t (until_none m t.seen (omega (arith, ap length t.gone)) (still_clear t clear)))
      (λ e.
      record {
        took = took_none v;
        none = none_left (waiting_of c p i channel) (λ some. eqb-false d.answer 0 e (take-accepted h v channel here c some clear));
        others = λ k n. refl;
        elsewhere = λ k n. refl;
      })

-- ---- 49 are enough

module _ {near far : Setup} {out back : Past} {p : Pair} {i : ℕ} (v : Seen near far out back p i) (channel : ℕ) (here : channel < channels) where
  all-few : length (waiting_at p i channel) < most_takes
  all-few =
      let d = v.both.receives in
      let bound = (d.receiving.inbox channel here).bound in
      omega (arith, length-held (inbox_at (end_at p i).receiver channel) (d.r_arrays.inbox_is channel) bound)

  pub few_wait : (c : Category) → length (waiting_of c p i channel) < most_takes
  few_wait Posted = omega (arith, count_parts (waiting_at p i channel), all-few)
  few_wait NonPosted = omega (arith, count_parts (waiting_at p i channel), all-few)
  few_wait Completion = omega (arith, count_parts (waiting_at p i channel), all-few)

-- Take until refused ends in a refusal
pub until_refused : {near far : Setup} {out back : Past} {p : Pair} {i : ℕ} → i < 2 → Seen near far out back p i → (channel : ℕ) → channel < channels → (c : Category)
    → Clear c (waiting_at p i channel) → (take_of (take_until most_takes p i channel (number_of c)) i channel (number_of c)).answer ≢ 0
until_refused h v channel here c clear =
    let u = until_none h channel here c most_takes v (few_wait v channel here c) clear in
    take-refused h u.took.seen channel here c u.none

-- ---- P, then NP, then C: the channel is empty

pub record OnEmpty (near far : Setup) (out back : Past) (p : Pair) (i channel : ℕ) (p' : Pair) : Type 0 where
  pub took : Took near far out back p i p'
  pub empty : waiting_at p' i channel ≡ []
  pub elsewhere : (k : ℕ) → k ≢ channel → inbox_at (end_at p' i).receiver k ≡ inbox_at (end_at p i).receiver k

none_of-all : (ps : List Packet) → of_category Posted ps ≡ [] → of_category NonPosted ps ≡ [] → of_category Completion ps ≡ [] → ps ≡ []
none_of-all ps a b c = none_left ps (λ some. omega (arith, count_parts ps, ap length a, ap length b, ap length c))

pub on-empty : {near far : Setup} {out back : Past} {p : Pair} {i : ℕ} → i < 2 → Seen near far out back p i → (channel : ℕ) → channel < channels
    → OnEmpty near far out back p i channel (takes_on p i channel)
unfolding takes_on
on-empty h v channel here =
    let first = until_none h channel here Posted most_takes v (few_wait v channel here Posted) (inl refl) in
    let v1 = first.took.seen in
    let second = until_none h channel here NonPosted most_takes v1 (few_wait v1 channel here NonPosted) (inr first.none) in
    let v2 = second.took.seen in
    let no-posted = second.others Posted (λ e. omega (arith, ap number_of e)) ∙ first.none in
    let third = until_none h channel here Completion most_takes v2 (few_wait v2 channel here Completion) (inr no-posted) in
    record {
      took = took_then first.took (took_then second.took third.took);
      empty =
          none_of-all _ (third.others Posted (λ e. omega (arith, ap number_of e)) ∙ no-posted)
          (third.others NonPosted (λ e. omega (arith, ap number_of e)) ∙ second.none)
          third.none;
      elsewhere = λ k n. third.elsewhere k n ∙ second.elsewhere k n ∙ first.elsewhere k n;
    }

-- ---- each channel from 0 up to c

pub record BelowEmpty (near far : Setup) (out back : Past) (p : Pair) (i c : ℕ) (p' : Pair) : Type 0 where
  pub took : Took near far out back p i p'
  pub empty : (channel : ℕ) → channel < c → waiting_at p' i channel ≡ []
  pub elsewhere : (channel : ℕ) → c ≤ channel → inbox_at (end_at p' i).receiver channel ≡ inbox_at (end_at p i).receiver channel

pub below_empty : {near far : Setup} {out back : Past} {p : Pair} {i : ℕ} → i < 2 → Seen near far out back p i → (c : ℕ) → c ≤ channels
    → BelowEmpty near far out back p i c (takes_below c p i)
unfolding takes_below
below_empty h v zero fits = record { took = took_none v; empty = λ k less. absurd (not-suc-le-zero less); elsewhere = λ k more. refl }
below_empty h v (suc c) fits =
    let b = below_empty h v c (omega arith) in
    let o = on-empty h b.took.seen c (omega arith) in
    record {
      took = took_then b.took o.took;
      empty = λ k less. by_cases (ℕ_discrete k c) (λ e. rw e o.empty) (λ n. ap held (o.elsewhere k n) ∙ b.empty k (omega arith));
      elsewhere = λ k more. o.elsewhere k (λ e. omega arith) ∙ b.elsewhere k (omega arith);
    }

-- ---- all channels of end i

pub record Emptied (near far : Setup) (out back : Past) (p : Pair) (i : ℕ) (p' : Pair) : Type 0 where
  pub back' : Past
  pub accepted_same : back'.accepted ≡ back.accepted
  pub seen : Seen near far out back' p' i
  pub empty : (channel : ℕ) → channel < channels → held (inbox_at (end_at p' i).receiver channel) ≡ []
  pub it_same : end_at p' (other i) ≡ end_at p (other i)
  pub sender_same : (end_at p' i).sender ≡ (end_at p i).sender
  pub lines_same : p'.lines ≡ p.lines

pub takes_empty : {near far : Setup} {out back : Past} {p : Pair} {i : ℕ} → i < 2 → Seen near far out back p i → Emptied near far out back p i (takes_at p i)
takes_empty h v =
    let b = below_empty h v channels (le_refl channels) in
    record {
      back' = b.took.back';
      accepted_same = b.took.accepted_same;
      seen = b.took.seen;
      empty = b.empty;
      it_same = b.took.aside.it_same;
      sender_same = b.took.aside.sender_same;
      lines_same = b.took.aside.lines_same;
    }
