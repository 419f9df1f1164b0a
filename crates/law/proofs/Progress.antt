-- The proofs behind the theorems of demand 3's last sentence: n quiet rounds take all n packets. What the pair holds says how many are untaken,
-- whatever past it is seen with; each round lowers that. Assumes nothing.
use Prim.Native.Nat.{ℕ, zero, suc, pred, ◌+◌, ◌-◌, ◌<◌, ◌≤◌}
use mathlib.Core.Path.{◌≡◌, refl, sym, ap, subst, ◌∙◌}
use mathlib.Core.Logic.{by_cases}
use mathlib.Core.List.{List, [], ◌++◌}
use native.Mathlib.Decide.{ℕ_discrete}
use native.Mathlib.Omega.{arith}
use lib.ListN.{length}
use Rattle.packets.specs.declared.Packet.{Packet}
use Rattle.packets.specs.declared.Category.{Category}
use Rattle.store.specs.Store.{held, of_category}
use Rattle.line.specs.declared.Slot.{Slot}
use Rattle.line.specs.Line.{on_line}
use Rattle.setup.specs.declared.Setup.{Setup}
use Rattle.setup.specs.Setup.{channels}
use Rattle.sender.specs.declared.Sender.{Sender}
use Rattle.sender.specs.Sender.{queue_at}
use Rattle.receiver.specs.declared.Receiver.{Receiver}
use Rattle.receiver.specs.Receiver.{inbox_at}
use Rattle.script.specs.declared.Step.{Step}
use Rattle.pairs.specs.declared.Pair.{Pair}
use Rattle.pairs.specs.Pairs.{end_at, line_at, other, swapped, pair_of}
use Rattle.rounds.specs.Rounds.{quiet_round, quiet_rounds, times}
use Rattle.rows.specs.Rows.{after, round_steps, rounds_steps}
use Rattle.rows.proofs.After.{after-append}
use Rattle.rows.proofs.Rows.{round-row, rounds_row}
use Rattle.rows.proofs.Times.{counts_down}
use Rattle.amounts.specs.Amounts.{on}
use Rattle.direction.specs.Direction.{Past, on_the_way, Direction}
use Rattle.direction.proofs.Whole.{way_is}
use Rattle.quiet.specs.Burden.{sum}
use Rattle.quiet.specs.Untaken.{untaken_of}
use Rattle.quiet.proofs.Burden.{sum_same}
use Rattle.quiet.proofs.Untaken.{untaken-is, all-taken}
use Rattle.quiet.proofs.Counts.{untaken-plain}
use Rattle.law.specs.History.{Accepted, history, accepted, taken, on_channel, untaken}
use Rattle.law.proofs.Pairs.{Seen}
use Rattle.law.proofs.Histories.{Grown}
use Rattle.law.proofs.Directions.{From, from, on-is, all_grown}
use Rattle.law.proofs.RoundHistory.{rounds_accept_none}
use Rattle.law.proofs.Rounds.{Round, round}

-- ---- two pasts of one direction have as many untaken

pub untaken-same : {link : Setup} {g h : Past} {s : Sender} {forth back : List Slot} {r : Receiver} → Direction link g s forth r back → Direction link h s forth r back
    → untaken_of link g.accepted g.taken ≡ untaken_of link h.accepted h.taken
untaken-same {link} {g} {h} {s} {forth} {back} {r} i j =
    let way : on_the_way g ≡ on_the_way h = sym (way_is i) ∙ way_is j in
    untaken-is i
    ∙ sum_same channels (λ channel. length (held (inbox_at r channel)) + length (on link channel (on_the_way g)) + length (held (queue_at s channel)))
    (λ channel. length (held (inbox_at r channel)) + length (on link channel (on_the_way h)) + length (held (queue_at s channel)))
    (λ channel z. rw way)
    ∙ sym (untaken-is j)

-- ---- n rounds

-- at most k are untaken in each direction
record Most (near far : Setup) (k : ℕ) (p : Pair) : Type 0 where
  g : Past
  h : Past
  seen : Seen near far g h p 0
  few_out : untaken_of near g.accepted g.taken ≤ k
  few_back : untaken_of far h.accepted h.taken ≤ k

module _ {near far : Setup} where
  most_fewer : (k : ℕ) (p : Pair) → Most near far k p → Most near far (pred k) (quiet_round p)
  most_fewer k p m =
      let r = round m.seen in
      record {
        g = r.g';
        h = r.h';
        seen = r.seen;
        few_out = rw r.accepted_out (omega (arith, r.fewer_out, m.few_out));
        few_back = rw r.accepted_back (omega (arith, r.fewer_back, m.few_back));
      }

  most-none : (n : ℕ) (p : Pair) → Most near far n p → Most near far 0 (times n quiet_round p)
  most-none n p m =
      let e : n - n ≡ 0 = omega arith in
      subst (λ k. Most near far k (times n quiet_round p)) e (counts_down quiet_round (λ k q. Most near far k q) most_fewer n n p m)

-- ---- from an accepted setup

-- as many as the history has, in each direction
module _ {link far : Setup} {up down : Past} {p : Pair} (v : Seen link far up down p 0) where
  pub plain_out : untaken_of link up.accepted up.taken ≡ length up.accepted - length up.taken
  plain_out = untaken-plain (rw v.both.me_is at v.both.facing.here) (rw v.both.me_is at v.both.sends)

  pub plain_back : untaken_of far down.accepted down.taken ≡ length down.accepted - length down.taken
  plain_back = untaken-plain (rw v.both.it_is at v.both.facing.there) (rw v.both.it_is at v.both.receives)

module _ (link : Setup) (ok : Accepted link) (steps : List Step) where
  abbrev p : Pair
  p = after (pair_of link) steps

  most-start : (n : ℕ) → untaken (history (pair_of link) steps) ≤ n → Most link (swapped link) n p
  unfolding untaken
  most-start n few =
      let g = all_grown link ok steps in
      let out : length g.up'.accepted - length g.up'.taken ≤ n = rw (g.up_grows.accepted_is, g.up_grows.taken_is) (omega arith) in
      let back : length g.down'.accepted - length g.down'.taken ≤ n = rw (g.down_grows.accepted_is, g.down_grows.taken_is) (omega arith) in
      record {
        g = g.up';
        h = g.down';
        seen = g.seen;
        few_out = omega (arith, plain_out g.seen);
        few_back = omega (arith, plain_back g.seen);
      }

  -- the steps of n rounds after these lead to the pair after n rounds
  pub rounds_lead : (n : ℕ) → after (pair_of link) (steps ++ rounds_steps n p) ≡ quiet_rounds n p
  rounds_lead n = after-append (pair_of link) steps (rounds_steps n p) ∙ sym (rounds_row n p)

  module _ (n : ℕ) (few : untaken (history (pair_of link) steps) ≤ n) where
    abbrev all : List Step
    all = steps ++ rounds_steps n p

    -- none is untaken after them
    none_left : Most link (swapped link) 0 (after (pair_of link) all)
    unfolding quiet_rounds
    none_left = subst (λ q. Most link (swapped link) 0 q) (sym (rounds_lead n)) (most-none n p (most-start n few))

    module _ (channel : ℕ) (here : channel < channels) (c : Category) where
      taken_1 : of_category c (on_channel link channel (taken 1 (history (pair_of link) all))) ≡ of_category c (on_channel link channel (accepted 0 (history (pair_of link) all)))
      taken_1 =
          let g = all_grown link ok all in
          let m = none_left in
          let d : Direction link g.up' _ _ _ _ = rw g.seen.both.me_is at g.seen.both.sends in
          let e : Direction link m.g _ _ _ _ = rw m.seen.both.me_is at m.seen.both.sends in
          let z : untaken_of link g.up'.accepted g.up'.taken ≡ 0 = omega (arith, untaken-same d e, m.few_out) in
          rw (g.up_grows.accepted_is, g.up_grows.taken_is) at (all-taken d z channel here c)

      -- end 1's setup puts packets on the same channels
      same : (ps : List Packet) → on (swapped link) channel ps ≡ on_channel link channel ps
      unfolding swapped
      same ps = on-is (swapped link) link refl channel ps

      taken_0 : of_category c (on_channel link channel (taken 0 (history (pair_of link) all))) ≡ of_category c (on_channel link channel (accepted 1 (history (pair_of link) all)))
      taken_0 =
          let g = all_grown link ok all in
          let m = none_left in
          let d : Direction (swapped link) g.down' _ _ _ _ = rw g.seen.both.it_is at g.seen.both.receives in
          let e : Direction (swapped link) m.h _ _ _ _ = rw m.seen.both.it_is at m.seen.both.receives in
          let z : untaken_of (swapped link) g.down'.accepted g.down'.taken ≡ 0 = omega (arith, untaken-same d e, m.few_back) in
          rw (g.down_grows.accepted_is, g.down_grows.taken_is, same (taken 0 (history (pair_of link) all)), same (accepted 1 (history (pair_of link) all)))
          at (all-taken d z channel here c)

    -- nothing more was accepted meanwhile
    pub rounds_take : (i channel : ℕ) → i < 2 → channel < channels → (c : Category)
        → of_category c (on_channel link channel (taken (other i) (history (pair_of link) all))) ≡ of_category c (on_channel link channel (accepted i (history (pair_of link) steps)))
    rounds_take i channel h here c =
        let both : of_category c (on_channel link channel (taken (other i) (history (pair_of link) all))) ≡ of_category c (on_channel link channel (accepted i (history (pair_of link) all))) =
        by_cases (ℕ_discrete i 0) (λ e. rw e (taken_1 channel here c)) (λ z. let e : i ≡ 1 = omega arith in rw e (taken_0 channel here c)) in
        rw (rounds_accept_none (pair_of link) steps n i) at both
