-- `shape::received_fit` meets its contract: std's `all` asks the room of each slot.
-- Assumes nothing.
use Rattle.std.proofs.Common.{rules, arith, ◌≡◌, get_or}
use mathlib.Core.Path.{◌∙◌}
use borrow.Author.Tests.{tests}
use Rattle.std.proofs.lemmas.Grind.{common_steps}
use Rattle.std.proofs.lemmas.Iterator.{YieldsList-from_slice}
use Rattle.std.proofs.lemmas.Iterator.Search.{all_from_yields_List}
use Rattle.basics.specs.Each.{each}
use Rattle.credits.specs.Credits.{none, room_of}
use Rattle.setup.specs.Setup.{per_end}
use Rattle.shape.specs.Shape.{room_fits, received_fit}
use Rattle.shape.proofs.Alls.{each_list}
use Rattle.shape.proofs.received_fit.Goals as goal

pub returns-then-all : goal.returns-then-all
unfolding received_fit
returns-then-all c =
    let each_fits : c.all.result ≡ each per_end (λ k. room_fits (get_or c.args.r.rooms k (room_of none))) =
    all_from_yields_List room_fits _ _ _ c.all.ensures.ran (YieldsList-from_slice c.args.r.rooms (cc)) (λ x b q k. search (rules, tests))
    ∙ each_list room_fits c.args.r.rooms (room_of none) (search rules)
    in
    grind (arith, common_steps)

pub returns-else-all : goal.returns-else-all
unfolding received_fit
returns-else-all c =
    let each_fits : c.all.result ≡ each per_end (λ k. room_fits (get_or c.args.r.rooms k (room_of none))) =
    all_from_yields_List room_fits _ _ _ c.all.ensures.ran (YieldsList-from_slice c.args.r.rooms (cc)) (λ x b q k. search (rules, tests))
    ∙ each_list room_fits c.args.r.rooms (room_of none) (search rules)
    in
    grind (arith, common_steps)
