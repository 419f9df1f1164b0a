-- `shape::marks_in_use` meets its contract: std's `all` asks the room of each slot.
-- Assumes nothing.
use Rattle.std.proofs.Common.{rules}
use mathlib.Core.Path.{◌∙◌}
use borrow.Author.Tests.{tests}
use Rattle.std.proofs.lemmas.Iterator.{YieldsList-from_slice}
use Rattle.std.proofs.lemmas.Iterator.Consumers.{YieldsList-from_enumerate}
use Rattle.std.proofs.lemmas.Iterator.Search.{all_from_yields_List}
use Rattle.credits.specs.Credits.{none, room_of}
use Rattle.shape.specs.Shape.{mark_in_use, marks_in_use}
use Rattle.shape.proofs.Alls.{each_enumerated}
use Rattle.shape.proofs.marks_in_use.Goals as goal

pub returns : goal.returns
unfolding marks_in_use
returns c =
    all_from_yields_List (λ p. mark_in_use c.args.n p.0 p.1) _ _ _ c.all.ensures.ran (YieldsList-from_enumerate (YieldsList-from_slice c.args.r.rooms (cc)) (cc)) (λ x b q k. search (rules, tests))
    ∙ each_enumerated (mark_in_use c.args.n) c.args.r.rooms (room_of none) (search rules)
