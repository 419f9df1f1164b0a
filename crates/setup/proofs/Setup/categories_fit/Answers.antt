-- `Setup::categories_fit` meets its contract: a test of every category.
-- Assumes nothing.
use Rattle.std.proofs.Common.{rules, refl, ltb, tests, ◌∙◌}
use Rattle.std.proofs.lemmas.Iterator.{YieldsList-from_range}
use Rattle.std.proofs.lemmas.Iterator.Search.{all_from_yields_List}
use Rattle.basics.proofs.Each.{each_range}
use Rattle.setup.specs.Setup.{units_fit, units_at, categories_fit}
use Rattle.setup.proofs.Setup.categories_fit.Goals as goal

pub returns : goal.returns
unfolding categories_fit
returns c =
    all_from_yields_List (λ category. units_fit (ltb c.args.channel c.args.self.n) (units_at c.args.self c.args.end c.args.channel category)) _ _ _ c.all.ensures.ran (YieldsList-from_range 0 3 3 refl refl) (λ x b q k. search (rules, tests))
    ∙ each_range 3 _
