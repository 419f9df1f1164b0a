-- `script::first_record` meets its contract: the first index whose record is out of form.
-- Assumes nothing.
use Rattle.std.proofs.Common.{rules, tests, ◌≡◌, ◌*◌, ◌∙◌, true, false}
use Rattle.std.proofs.lemmas.Iterator.{first_from_Range}
use Rattle.basics.specs.Parts.{part}
use Rattle.basics.proofs.Each.{first_found}
use Rattle.script.specs.Step.{record_in_form}
use Rattle.script.proofs.first_record.Goals as goal

pub returns : goal.returns
returns c =
    c.unwrap_or.ensures
    ∙ first_found record_in_form 12 c.args.b.now c.args.count c.find.result
    (first_from_Range _ _ _ c.find.result (λ i. record_in_form (part c.args.b.now (12 * i) 12) ≡ false) (λ i. record_in_form (part c.args.b.now (12 * i) 12) ≡ true) c.find.ensures.ran
    (λ x q k. search (rules, tests)) (λ x q k. search (rules, tests)))
