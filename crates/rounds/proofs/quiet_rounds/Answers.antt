-- `rounds::quiet_rounds` meets its contract: std's `fold` makes so many changes.
-- Assumes nothing.
use Rattle.std.proofs.Common.{rules, refl, ◌-◌, ◌≡◌, arith}
use mathlib.Core.Path.{◌∙◌}
use Rattle.std.proofs.lemmas.Iterator.{YieldsList-from_range}
use Rattle.std.proofs.lemmas.Iterator.Consumers.{fold_from_yields_List}
use Rattle.rounds.specs.Rounds.{quiet_round, quiet_rounds}
use Rattle.rounds.proofs.Rows.{fold_times}
use Rattle.rounds.proofs.quiet_rounds.Goals as goal

pub returns : goal.returns
unfolding quiet_rounds
returns c =
    let long : c.args.n - 0 ≡ c.args.n = omega arith in
    fold_from_yields_List _ (λ q x. quiet_round q) c.args.p c.fold.result c.fold.ensures.ran (YieldsList-from_range 0 c.args.n c.args.n refl long) (λ a x b q k. search rules)
    ∙ fold_times quiet_round c.args.p 0 c.args.n
