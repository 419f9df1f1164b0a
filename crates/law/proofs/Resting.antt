-- The pair after the exchanges of a quiet round, and after the round, said of the pair itself. Assumes nothing.
use Rattle.std.specs.Prelude.{Some, None, Option}
use Rattle.frames.specs.declared.Frame.{Frame}
use Prim.Native.Nat.{ℕ, zero, suc, pred, ◌+◌, ◌-◌, ◌<◌, ◌≤◌}
use mathlib.Core.Path.{◌≡◌, refl, sym, ap, subst, ◌∙◌}
use mathlib.Core.Logic.{by_cases, ◌≢◌}
use mathlib.Core.List.{List, [], ◌++◌}
use native.Mathlib.Decide.{ℕ_discrete}
use native.Mathlib.Omega.{arith}
use lib.ListN.{length}
use Rattle.packets.specs.declared.Packet.{Packet}
use Rattle.setup.specs.declared.Setup.{Setup}
use Rattle.setup.specs.Setup.{channels, per_end}
use Rattle.sender.specs.Sender.{credit_at}
use Rattle.receiver.specs.Receiver.{room_at}
use Rattle.ends.specs.Sends.{send_of}
use Rattle.script.specs.declared.Step.{Step}
use Rattle.pairs.specs.declared.Pair.{Pair}
use Rattle.pairs.specs.Pairs.{Done}
use Rattle.pairs.specs.Pairs.{end_at, line_at, other, swapped, pair_of, carried, send_at}
use Rattle.pairs.specs.Steps.{act, step_of}
use Rattle.rounds.specs.Rounds.{plain, exchange, times, opening, quiet_round}
use Rattle.rows.specs.Rows.{after, round_steps}
use Rattle.rows.proofs.After.{after-append}
use Rattle.rows.proofs.Rows.{round-row}
use Rattle.direction.specs.Direction.{Past, Direction}
use Rattle.direction.proofs.Start.{no_past}
use Rattle.direction.proofs.Whole.{way_is}
use Rattle.quiet.proofs.CaughtUp.{buffer_empty, numbers_agree, none-on_the_way, stored_agree}
use Rattle.quiet.specs.Untaken.{untaken_of}
use Rattle.law.specs.History.{Accepted, history, accepted, taken, untaken, waiting_at_receiver, sent_not_received, CaughtUp}
use Rattle.law.proofs.Pairs.{Seen}
use Rattle.law.proofs.Moves.{View, plain_step, form_2}
use Rattle.law.proofs.Exchanges.{Still}
use Rattle.law.proofs.Histories.{Grown}
use Rattle.law.proofs.Directions.{all_grown}
use Rattle.law.proofs.Rounds.{At, at_0, at_1, Idle, idle_end, direction, live, rule, Round, round}
use Rattle.law.proofs.Progress.{untaken-same, plain_out, plain_back}

-- ---- one end at rest: Send answers 18

send_18 : {near far : Setup} {a u b v : List Packet} {p : Pair} {i : ℕ} → i < 2 → At near far a u b v p i → (step_of p (plain 2 i)).answer ≡ 18
unfolding act send_at
send_18 {p = p} {i = i} h r =
    ap (λ (d : Done). d.answer) (plain_step 2 i h (form_2 i h) r.view)
    ∙ ap (λ (f : Option Frame). (carried p i (send_of (end_at p i)) f).answer) r.here.nothing

caught : {near far : Setup} {a u b v : List Packet} {p : Pair} {i : ℕ} → At near far a u b v p i → CaughtUp p i
unfolding sent_not_received
caught {i = i} r =
    let here = idle_end r.here in
    let there = idle_end r.there in
    record {
      no_replay = here.rests;
      buffer_empty = buffer_empty (rule r) (direction r) (live r) here.rests there.none_owed there.unmarked;
      all_received = way_is (direction r) ∙ none-on_the_way (rule r) (direction r) (live r) here.rests there.none_owed there.unmarked;
      numbers_agree = numbers_agree (rule r) (direction r) (live r) here.rests there.none_owed there.unmarked;
      limits_agree = stored_agree (rule r) (direction r) (live r) here.rests there.none_owed there.unmarked;
    }

-- fewer in each direction, or none, are fewer in both, or none
joined : (a b c d e f x y : ℕ) → a ≡ e → b ≡ f → c ≡ x → d ≡ y → a ≤ pred c → b ≤ pred d → e + f ≤ pred (x + y)
joined a b c d e f x y p q r s u v = omega arith

-- ---- from an accepted setup

module _ (link : Setup) (ok : Accepted link) (steps : List Step) where
  abbrev p : Pair
  p = after (pair_of link) steps

  abbrev q : Pair
  q = times 1024 exchange (opening p)

  abbrev g : Grown link (swapped link) (no_past link) (no_past (swapped link)) (history (pair_of link) steps) p
  g = all_grown link ok steps

  pub lines-empty : (i : ℕ) → i < 2 → (line_at q i).len ≡ 0
  lines-empty i h =
      by_cases (ℕ_discrete i 0) (λ e. rw e (at_0 g.seen).line_to) (λ n. let e : i ≡ 1 = omega arith in rw e (at_1 g.seen).line_to)

  pub sends_nothing : (i : ℕ) → i < 2 → (step_of q (plain 2 i)).answer ≡ 18
  sends_nothing i h =
      by_cases (ℕ_discrete i 0) (λ e. rw e (send_18 (omega arith) (at_0 g.seen))) (λ n. let e : i ≡ 1 = omega arith in rw e (send_18 (omega arith) (at_1 g.seen)))

  pub all_caught : (i : ℕ) → i < 2 → CaughtUp q i
  all_caught i h = by_cases (ℕ_discrete i 0) (λ e. rw e (caught (at_0 g.seen))) (λ n. let e : i ≡ 1 = omega arith in rw e (caught (at_1 g.seen)))

  pub receivers_empty : (i channel : ℕ) → i < 2 → channel < channels → waiting_at_receiver (quiet_round p) i channel ≡ []
  receivers_empty i channel h k = (round g.seen).none_waits (other i) channel (omega arith) k

  -- the round's steps after these
  round_leads : after (pair_of link) (steps ++ round_steps p) ≡ quiet_round p
  round_leads = after-append (pair_of link) steps (round_steps p) ∙ sym (round-row p)

  round_lowers : untaken (history (pair_of link) (steps ++ round_steps p)) ≤ pred (untaken (history (pair_of link) steps))
  unfolding untaken
  round_lowers =
      let es = history (pair_of link) steps in
      let fs = history (pair_of link) (steps ++ round_steps p) in
      let r = round g.seen in
      let w : Seen link (swapped link) r.g' r.h' (after (pair_of link) (steps ++ round_steps p)) 0 =
      subst (λ x. Seen link (swapped link) r.g' r.h' x 0) (sym round_leads) r.seen in
      let k = all_grown link ok (steps ++ round_steps p) in
      let out = untaken-same (rw k.seen.both.me_is at k.seen.both.sends) (rw w.both.me_is at w.both.sends) in
      let back = untaken-same (rw k.seen.both.it_is at k.seen.both.receives) (rw w.both.it_is at w.both.receives) in
      let a : length k.up'.accepted - length k.up'.taken ≡ length (accepted 0 fs) - length (taken 1 fs) = rw (k.up_grows.accepted_is, k.up_grows.taken_is) in
      let b : length k.down'.accepted - length k.down'.taken ≡ length (accepted 1 fs) - length (taken 0 fs) = rw (k.down_grows.accepted_is, k.down_grows.taken_is) in
      let x : length g.up'.accepted - length g.up'.taken ≡ length (accepted 0 es) - length (taken 1 es) = rw (g.up_grows.accepted_is, g.up_grows.taken_is) in
      let y : length g.down'.accepted - length g.down'.taken ≡ length (accepted 1 es) - length (taken 0 es) = rw (g.down_grows.accepted_is, g.down_grows.taken_is) in
      let c : untaken_of link r.g'.accepted r.g'.taken ≡ untaken_of link g.up'.accepted r.g'.taken = ap (λ l. untaken_of link l r.g'.taken) r.accepted_out in
      let d : untaken_of (swapped link) r.h'.accepted r.h'.taken ≡ untaken_of (swapped link) g.down'.accepted r.h'.taken =
      ap (λ l. untaken_of (swapped link) l r.h'.taken) r.accepted_back in
      let u0 : untaken_of link k.up'.accepted k.up'.taken ≤ pred (untaken_of link g.up'.accepted g.up'.taken) = omega (arith, out, c, r.fewer_out) in
      let u1 : untaken_of (swapped link) k.down'.accepted k.down'.taken ≤ pred (untaken_of (swapped link) g.down'.accepted g.down'.taken) =
      omega (arith, back, d, r.fewer_back) in
      joined _ _ _ _ _ _ _ _ (plain_out k.seen ∙ a) (plain_back k.seen ∙ b) (plain_out g.seen ∙ x) (plain_back g.seen ∙ y) u0 u1

  pub round_fewer : untaken (history (pair_of link) steps) ≢ 0 → untaken (history (pair_of link) (steps ++ round_steps p)) < untaken (history (pair_of link) steps)
  round_fewer some = omega (arith, round_lowers)
