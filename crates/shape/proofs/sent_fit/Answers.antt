-- `shape::sent_fit` meets its contract: std's `all` asks the credit of each slot.
-- Assumes nothing.
use Rattle.std.proofs.Common.{rules, arith, ◌≡◌, get_or}
use mathlib.Core.Path.{◌∙◌}
use borrow.Author.Tests.{tests}
use Rattle.std.proofs.lemmas.Grind.{common_steps}
use Rattle.std.proofs.lemmas.Iterator.{YieldsList-from_slice}
use Rattle.std.proofs.lemmas.Iterator.Search.{all_from_yields_List}
use Rattle.basics.specs.Each.{each}
use Rattle.credits.specs.Credits.{none, credit_for}
use Rattle.setup.specs.Setup.{per_end}
use Rattle.shape.specs.Shape.{credit_fits, sent_fit}
use Rattle.shape.proofs.Alls.{each_list}
use Rattle.shape.proofs.sent_fit.Goals as goal

pub returns-then-s-lt-RANGE-2 : goal.returns-then-s-lt-RANGE-2
unfolding sent_fit
returns-then-s-lt-RANGE-2 c =
    let each_fits : c.all.result ≡ each per_end (λ k. credit_fits (get_or c.args.s.credits k (credit_for none))) =
    all_from_yields_List credit_fits _ _ _ c.all.ensures.ran (YieldsList-from_slice c.args.s.credits (cc)) (λ x b q k. search (rules, tests))
    ∙ each_list credit_fits c.args.s.credits (credit_for none) (search rules)
    in
    grind (arith, common_steps)

pub returns-else-s-lt-RANGE-2 : goal.returns-else-s-lt-RANGE-2
unfolding sent_fit
returns-else-s-lt-RANGE-2 c =
    let each_fits : c.all.result ≡ each per_end (λ k. credit_fits (get_or c.args.s.credits k (credit_for none))) =
    all_from_yields_List credit_fits _ _ _ c.all.ensures.ran (YieldsList-from_slice c.args.s.credits (cc)) (λ x b q k. search (rules, tests))
    ∙ each_list credit_fits c.args.s.credits (credit_for none) (search rules)
    in
    grind (arith, common_steps)
