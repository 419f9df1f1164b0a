-- `Setup::channels_fit` meets its contract: a test of every channel.
-- Assumes nothing.
use Rattle.std.proofs.Common.{rules, refl, tests, ◌∙◌}
use Rattle.std.proofs.lemmas.Iterator.{YieldsList-from_range}
use Rattle.std.proofs.lemmas.Iterator.Search.{all_from_yields_List}
use Rattle.basics.proofs.Each.{each_range}
use Rattle.setup.specs.Setup.{categories_fit, channels_fit}
use Rattle.setup.proofs.Setup.channels_fit.Goals as goal

pub returns : goal.returns
unfolding channels_fit
returns c =
    all_from_yields_List (λ channel. categories_fit c.args.self c.args.end channel) _ _ _ c.all.ensures.ran (YieldsList-from_range 0 4 4 refl refl) (λ x b q k. search (rules, tests))
    ∙ each_range 4 _
