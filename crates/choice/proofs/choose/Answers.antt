-- `choice::choose` meets its contract. The loop's invariant: what is found from i on is what is found from the front, and
-- `seen` says which categories the packets before i are of.
-- Assumes nothing.
use Rattle.std.proofs.Common.{◌≡◌, ◌<◌, refl, sym, ap, ◌∙◌, length, take, get_or, drop_of_length-le, arith}
use Rattle.std.proofs.lemmas.List.{take_more, drop_more}
use Rattle.store.specs.Store.{no_packet}
use Rattle.choice.specs.Choice.{eligible, chosen}
use Rattle.choice.specs.Seen.{seen_in}
use Rattle.choice.proofs.Passed.{seeing_one, lets-eligible}
use Rattle.choice.proofs.choose.Goals as goal
use Rattle.choice.proofs.choose.Goals.{After-lets}

-- the code's test of the packet at i is the definition's
tested : (c : After-lets)
    → eligible c.args.credits (take c.loop-i.i c.held-p-items.result.now) (get_or c.held-p-items.result.now c.loop-i.i no_packet) ≡ c.lets.result
tested c =
    sym (c.lets.ensures
    ∙ rw (c.loop-i.invariant.passed, c.credit_of.ensures, c.category-c.ensures) (lets-eligible c.args.credits (take c.loop-i.i c.held-p-items.result.now) _))

pub loop-i-init : goal.loop-i-init
loop-i-init c = record { passed = c.none-seen.ensures; same = refl }

pub returns-then-lets : goal.returns-then-lets
unfolding chosen
returns-then-lets c =
    let lt : c.loop-i.i < length c.held-p-items.result.now = omega arith in
    rw (← c.held-p-items.ensures.value) (sym (c.loop-i.invariant.same ∙ rw (drop_more _ c.loop-i.i no_packet lt, tested c.before ∙ c.if-lets.true)))

pub loop-i-preserved : goal.loop-i-preserved
loop-i-preserved c =
    let lt : c.loop-i.i < length c.held-p-items.result.now = omega arith in
    let front = take_more c.held-p-items.result.now c.loop-i.i no_packet lt in
    record {
      passed = c.with-seen.ensures
          ∙ rw (c.loop-i.invariant.passed, c.category-c.ensures) (seeing_one _ _ ∙ ap seen_in (sym front));
      same = c.loop-i.invariant.same
          ∙ rw (drop_more _ c.loop-i.i no_packet lt, tested c.before.before ∙ c.if-lets.false, front);
    }

pub returns : goal.returns
unfolding chosen
returns c =
    rw (← c.held-p-items.ensures.value) (sym (c.loop-i.invariant.same ∙ rw (drop_of_length-le c.held-p-items.result.now {i = c.loop-i.i} (omega arith))))
