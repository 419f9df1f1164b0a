-- `rounds::exchanges` meets its contract: std's `fold` makes so many changes.
-- Assumes nothing.
use Rattle.std.proofs.Common.{rules, refl}
use mathlib.Core.Path.{◌∙◌}
use Rattle.std.proofs.lemmas.Iterator.{YieldsList-from_range}
use Rattle.std.proofs.lemmas.Iterator.Consumers.{fold_from_yields_List}
use Rattle.rounds.specs.Rounds.{exchange}
use Rattle.rounds.proofs.Rows.{fold_times}
use Rattle.rounds.proofs.exchanges.Goals as goal

pub returns : goal.returns
returns c =
    fold_from_yields_List _ (λ q x. exchange q) c.args.p c.fold.result c.fold.ensures.ran (YieldsList-from_range 0 1024 1024 refl refl) (λ a x b q k. search rules)
    ∙ fold_times exchange c.args.p 0 1024
