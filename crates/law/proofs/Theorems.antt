-- Demand 3: from an accepted setup, over every list of steps, with losses and damage.
-- `accepted`, `taken` and `untaken` are read off the history; channels and categories are document 01's. Direction i is from end i to the other end.
-- Assumes nothing.
use Prim.Native.Nat.{ℕ, ◌≤◌, ◌<◌}
use mathlib.Core.Path.{◌≡◌}
use mathlib.Core.Logic.{◌≢◌}
use mathlib.Core.Bool.{true, false}
use mathlib.Core.List.{List, [], ◌∷◌, ◌++◌}
use lib.ListN.{length, take}
use Rattle.packets.specs.declared.Packet.{Packet}
use Rattle.packets.specs.declared.Category.{Category}
use Rattle.packets.specs.declared.Category.TheVariants.{Posted}
use Rattle.packets.specs.Packets.{number_of, category_of, data_together}
use Rattle.store.specs.Store.{is_of, of_category}
use Rattle.setup.specs.declared.Setup.{Setup}
use Rattle.setup.specs.Setup.{channels, units_at}
use Rattle.script.specs.declared.Step.{Step}
use Rattle.script.specs.Step.{is_take}
use Rattle.pairs.specs.declared.Pair.{Pair}
use Rattle.pairs.specs.Pairs.{line_at, other, pair_of}
use Rattle.pairs.specs.Steps.{step_of}
use Rattle.rounds.specs.Rounds.{plain, exchange, times, opening, quiet_round, quiet_rounds}
use Rattle.rows.specs.Rows.{after, round_steps, rounds_steps}
use Rattle.runs.specs.Runs.{start_of, run_of}
use Rattle.law.specs.History.{Accepted, Event, about, history, accepted, taken, on_channel, waiting_to_be_sent, waiting_at_receiver, sent_not_received, untaken, CaughtUp}
use Rattle.law.proofs.Safety.{lists, overflow, posted, usual_answers}
use Rattle.law.proofs.Details.{take-detail}
use Rattle.law.proofs.Runs.{run_leads}
use Rattle.law.proofs.Progress.{rounds_lead, rounds_take}
use Rattle.law.proofs.Resting.{lines-empty, sends_nothing, all_caught, receivers_empty, round_fewer}

module _ (link : Setup) (ok : Accepted link) (steps : List Step) where
  -- the history of the steps, and the pair that they lead to
  abbrev es : List Event
  es = history (pair_of link) steps

  abbrev p : Pair
  p = after (pair_of link) steps

  -- It is the pair of the program's run over these steps.
  pub run_is : (run_of (start_of (pair_of link)) steps).pair ≡ p
  unfolding start_of
  run_is = run_leads (start_of (pair_of link)) steps

  -- ---- nothing is lost, nothing overflows, posted ones go first

  module _ (i channel : ℕ) (end : i < 2) (here : channel < channels) where
    -- what was accepted at the one end and taken at the other, on this channel
    abbrev given : List Packet
    given = on_channel link channel (accepted i es)

    abbrev got : List Packet
    got = on_channel link channel (taken (other i) es)

    -- The packets taken, then those waiting at the receiver, then those sent and not yet received, then those waiting to be sent, are together the
    -- accepted packets in their order.
    pub nothing_lost : (c : Category)
        → of_category c got ++ of_category c (waiting_at_receiver p i channel) ++ of_category c (on_channel link channel (sent_not_received p i)) ++ of_category c (waiting_to_be_sent p i channel)
        ≡ of_category c given
    nothing_lost = lists link ok steps i channel end here

    -- No arrival overflows a receive buffer: header and data units waiting never exceed the setup's.
    pub no_overflow : (c : Category)
        → (length (of_category c (waiting_at_receiver p i channel)) ≤ (units_at link (other i) channel (number_of c)).header)
        × (data_together (of_category c (waiting_at_receiver p i channel)) ≤ (units_at link (other i) channel (number_of c)).payload)
    no_overflow = overflow link ok steps i channel end here

    -- No packet is taken before a posted one accepted earlier: where q is not posted and is taken (more of its category are taken than were accepted
    -- before it), the posted packets accepted before it are the first posted ones taken.
    pub posted_first : (older younger : List Packet) (q : Packet) → given ≡ older ++ (q ∷ younger) → is_of Posted q ≡ false
        → length (of_category (category_of q) older) < length (of_category (category_of q) got)
        → take (length (of_category Posted older)) (of_category Posted got) ≡ of_category Posted older
    posted_first = posted link ok steps i channel end here

  -- None of 10 and 24 to 27 is ever answered in the pair.
  pub never_answered : (t : Step) → ((step_of p t).answer ≢ 10) × ((step_of p t).answer < 24)
  never_answered = usual_answers link ok steps

  -- What a Take hands out is read off the listing: its detail is the packet's ident.
  pub detail-is_ident : (t : Step) → is_take t.step ≡ true → (step_of p t).answer ≡ 0 → (step_of p t).detail ≡ (about p t).ident
  detail-is_ident = take-detail p

  -- ---- quiet rounds

  -- the pair after the exchanges of a round
  abbrev resting : Pair
  resting = times 1024 exchange (opening p)

  -- At rest: both lines are empty and Send answers 18 at both ends.
  pub at_rest : (i : ℕ) → i < 2 → ((line_at resting i).len ≡ 0) × ((step_of resting (plain 2 i)).answer ≡ 18)
  at_rest i end = (lines-empty link ok steps i end, sends_nothing link ok steps i end)

  -- Caught up: everything sent is received and acknowledged, the replay buffer is empty, no replay runs, and every limit is what the other end has allocated.
  pub caught_up : (i : ℕ) → i < 2 → CaughtUp resting i
  caught_up = all_caught link ok steps

  -- After the Takes of a round nothing waits at a receiver.
  pub nothing_waits : (i channel : ℕ) → i < 2 → channel < channels → waiting_at_receiver (quiet_round p) i channel ≡ []
  nothing_waits = receivers_empty link ok steps

  -- Each round with an untaken packet takes at least one.
  pub round_takes : untaken es ≢ 0 → untaken (history (pair_of link) (steps ++ round_steps p)) < untaken es
  round_takes = round_fewer link ok steps

  -- The steps of n quiet rounds lead to the pair after n quiet rounds.
  pub rounds_are_steps : (n : ℕ) → after (pair_of link) (steps ++ rounds_steps n p) ≡ quiet_rounds n p
  rounds_are_steps = rounds_lead link ok steps

  -- If n packets are untaken and only quiet rounds follow, then after n rounds all are taken, each list in its order.
  pub all-taken : (n : ℕ) → untaken es ≤ n → (i channel : ℕ) → i < 2 → channel < channels → (c : Category)
      → of_category c (on_channel link channel (taken (other i) (history (pair_of link) (steps ++ rounds_steps n p)))) ≡ of_category c (on_channel link channel (accepted i es))
  all-taken = rounds_take link ok steps
