-- `Setup::classes_fit` meets its contract: a test of every class.
-- Assumes nothing.
use Rattle.std.proofs.Common.{rules, refl, ltb, tests, ◌∙◌}
use Rattle.std.proofs.lemmas.Iterator.{YieldsList-from_range}
use Rattle.std.proofs.lemmas.Iterator.Search.{all_from_yields_List}
use Rattle.basics.proofs.Each.{each_range}
use Rattle.setup.specs.Setup.{channel_of, classes_fit}
use Rattle.setup.proofs.Setup.classes_fit.Goals as goal

pub returns : goal.returns
unfolding classes_fit
returns c =
    all_from_yields_List (λ class. ltb (channel_of c.args.self class) c.args.self.n) _ _ _ c.all.ensures.ran (YieldsList-from_range 0 8 8 refl refl) (λ x b q k. search (rules, tests))
    ∙ each_range 8 _
