-- `rounds::takes_at` meets its contract: std's `fold` takes on each channel in turn.
-- Assumes nothing.
use Rattle.std.proofs.Common.{rules, refl}
use Rattle.std.proofs.lemmas.Iterator.{YieldsList-from_range}
use Rattle.std.proofs.lemmas.Iterator.Consumers.{fold_from_yields_List}
use Rattle.rounds.specs.Rounds.{takes_on, takes_below}
use Rattle.rounds.proofs.takes_at.Goals as goal

pub returns : goal.returns
unfolding takes_below
returns c =
    fold_from_yields_List _ (λ q x. takes_on q c.args.end x) c.args.p c.fold.result c.fold.ensures.ran (YieldsList-from_range 0 4 4 refl refl) (λ a x b q k. search rules)
