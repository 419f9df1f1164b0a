-- `script::first_step` meets its contract: the first index whose step is out of form.
-- Assumes nothing.
use Rattle.std.proofs.Common.{rules, tests, ◌≡◌, ◌*◌, ◌∙◌, true, false, sym}
use Rattle.std.proofs.lemmas.Iterator.{first_from_Range}
use Rattle.basics.specs.Parts.{part}
use Rattle.basics.proofs.Each.{first_found, first_map}
use Rattle.script.specs.Script.{steps_in}
use Rattle.script.specs.Step.{in_form, step_of}
use Rattle.script.proofs.first_step.Goals as goal

pub returns : goal.returns
unfolding steps_in
returns c =
    c.unwrap_or.ensures
    ∙ first_found (λ six. in_form (step_of six)) 6 c.args.l.now c.args.count c.find.result
    (first_from_Range _ _ _ c.find.result (λ i. in_form (step_of (part c.args.l.now (6 * i) 6)) ≡ false) (λ i. in_form (step_of (part c.args.l.now (6 * i) 6)) ≡ true) c.find.ensures.ran
    (λ x q k. search (rules, tests)) (λ x q k. search (rules, tests)))
    ∙ sym (first_map in_form step_of _)
