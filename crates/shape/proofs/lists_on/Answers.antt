-- `shape::lists_on` meets its contract: std's `all` asks the list of each channel.
-- Assumes nothing.
use Rattle.std.proofs.Common.{rules}
use mathlib.Core.Path.{◌∙◌}
use borrow.Author.Tests.{tests}
use Rattle.std.proofs.lemmas.Iterator.{YieldsList-from_slice}
use Rattle.std.proofs.lemmas.Iterator.Consumers.{YieldsList-from_enumerate}
use Rattle.std.proofs.lemmas.Iterator.Search.{all_from_yields_List}
use Rattle.store.specs.Store.{empty}
use Rattle.shape.specs.Shape.{all_on}
use Rattle.shape.proofs.Alls.{each_enumerated}
use Rattle.shape.proofs.lists_on.Goals as goal

pub returns : goal.returns
returns c =
    all_from_yields_List (λ p. all_on c.args.link p.0 p.1) _ _ _ c.all.ensures.ran (YieldsList-from_enumerate (YieldsList-from_slice c.args.lists (cc)) (cc)) (λ x b q k. search (rules, tests))
    ∙ each_enumerated (all_on c.args.link) c.args.lists empty (search rules)
