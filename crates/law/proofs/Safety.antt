-- The proofs behind the theorems of demand 3's first part: each direction's facts, said of the history and the pair.
-- Assumes nothing.
use Prim.Native.Nat.{ℕ, ◌≤◌, ◌<◌}
use mathlib.Core.Path.{◌≡◌}
use mathlib.Core.Logic.{◌≢◌}
use mathlib.Core.Bool.{false}
use mathlib.Core.List.{List, ◌∷◌, ◌++◌}
use native.Mathlib.Omega.{arith}
use lib.ListN.{length, take}
use Rattle.packets.specs.declared.Packet.{Packet}
use Rattle.packets.specs.declared.Category.{Category}
use Rattle.packets.specs.declared.Category.TheVariants.{Posted}
use Rattle.packets.specs.Packets.{number_of, category_of, data_together}
use Rattle.store.specs.Store.{is_of, of_category}
use Rattle.store.proofs.Categories.{headers-counted}
use Rattle.setup.specs.declared.Setup.{Setup}
use Rattle.setup.specs.Setup.{channels, units_at}
use Rattle.script.specs.declared.Step.{Step}
use Rattle.pairs.specs.Pairs.{other, pair_of}
use Rattle.pairs.specs.Steps.{step_of}
use Rattle.views.specs.Views.{usual}
use Rattle.amounts.specs.Amounts.{together, on}
use Rattle.amounts.proofs.Given.{given_is}
use Rattle.direction.specs.Direction.{on_the_way}
use Rattle.direction.proofs.Bounds.{waiting_fits}
use Rattle.direction.proofs.Whole.{way_is, all_there, posted_taken}
use Rattle.rows.specs.Rows.{after}
use Rattle.law.specs.History.{Accepted, history, accepted, taken, on_channel, waiting_to_be_sent, waiting_at_receiver, sent_not_received}
use Rattle.law.proofs.Directions.{From, from, on-is, all_grown}
use Rattle.law.proofs.Steps.{Fine, all_done, out_of_form, refused}
use Rattle.law.proofs.Histories.{fine_one}

module _ (link : Setup) (ok : Accepted link) (steps : List Step) where
  module _ (i channel : ℕ) (end : i < 2) (here : channel < channels) where
    d : From link ok steps i
    d = from link ok steps i end

    -- the packets of the channel, by either end's setup
    same : (ps : List Packet) → on d.setup channel ps ≡ on_channel link channel ps
    same ps = on-is d.setup link d.classes_is channel ps

    pub lists : (c : Category)
        → of_category c (on_channel link channel (taken (other i) (history (pair_of link) steps))) ++ of_category c (waiting_at_receiver (after (pair_of link) steps) i channel)
        ++ of_category c (on_channel link channel (sent_not_received (after (pair_of link) steps) i)) ++ of_category c (waiting_to_be_sent (after (pair_of link) steps) i channel)
        ≡ of_category c (on_channel link channel (accepted i (history (pair_of link) steps)))
    unfolding sent_not_received
    lists c =
        rw (way_is d.holds)
        (rw (same d.past.taken, same (on_the_way d.past), same d.past.accepted, d.taken_is, d.accepted_is) at (all_there d.holds channel here c))

    pub overflow : (c : Category)
        → (length (of_category c (waiting_at_receiver (after (pair_of link) steps) i channel)) ≤ (units_at link (other i) channel (number_of c)).header)
        × (data_together (of_category c (waiting_at_receiver (after (pair_of link) steps) i channel)) ≤ (units_at link (other i) channel (number_of c)).payload)
    unfolding together
    overflow c =
        let w = rw (given_is d.setup channel c here, d.units_are channel c here) at (waiting_fits d.holds channel c here) in
        (rw (headers-counted (of_category c (waiting_at_receiver (after (pair_of link) steps) i channel))) at w.h, w.d)

    pub posted : (older younger : List Packet) (q : Packet) → on_channel link channel (accepted i (history (pair_of link) steps)) ≡ older ++ (q ∷ younger) → is_of Posted q ≡ false
        → length (of_category (category_of q) older) < length (of_category (category_of q) (on_channel link channel (taken (other i) (history (pair_of link) steps))))
        → take (length (of_category Posted older)) (of_category Posted (on_channel link channel (taken (other i) (history (pair_of link) steps)))) ≡ of_category Posted older
    posted older younger q is nonposted h =
        let was : on d.setup channel d.past.accepted ≡ older ++ (q ∷ younger) = rw (d.accepted_is, same (accepted i (history (pair_of link) steps))) is in
        let out : on d.setup channel d.past.taken ≡ on_channel link channel (taken (other i) (history (pair_of link) steps)) =
        rw d.taken_is (same (taken (other i) (history (pair_of link) steps))) in
        rw out at (posted_taken d.holds channel here older younger q was nonposted (rw out h))

  pub usual_answers : (t : Step) → ((step_of (after (pair_of link) steps) t).answer ≢ 10) × ((step_of (after (pair_of link) steps) t).answer < 24)
  usual_answers t = go (fine_one (all_grown link ok steps).seen t)
    where
      go : {n : ℕ} → Fine n → (n ≢ 10) × (n < 24)
      go all_done = (λ e. omega arith, omega arith)
      go out_of_form = (λ e. omega arith, omega arith)
      go (refused (usual low high)) = (λ e. omega arith, omega arith)
