-- `shape::room_adds_up` meets its contract: std's `all` asks each channel.
-- Assumes nothing.
use Rattle.std.proofs.Common.{rules, refl}
use mathlib.Core.Path.{◌∙◌}
use borrow.Author.Tests.{tests}
use Rattle.std.proofs.lemmas.Iterator.{YieldsList-from_range}
use Rattle.std.proofs.lemmas.Iterator.Search.{all_from_yields_List}
use Rattle.shape.specs.Shape.{channel_adds_up, room_adds_up}
use Rattle.shape.proofs.Alls.{each_below}
use Rattle.shape.proofs.room_adds_up.Goals as goal

pub returns : goal.returns
unfolding room_adds_up
returns c =
    all_from_yields_List (channel_adds_up c.args.link c.args.r) _ _ _ c.all.ensures.ran (YieldsList-from_range 0 4 4 refl refl) (λ x b q k. search (rules, tests))
    ∙ each_below (channel_adds_up c.args.link c.args.r) 4
