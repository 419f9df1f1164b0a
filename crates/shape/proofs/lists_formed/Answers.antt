-- `shape::lists_formed` meets its contract: std's `all` asks the list of each channel.
-- Assumes nothing.
use Rattle.std.proofs.Common.{rules}
use mathlib.Core.Path.{◌∙◌}
use borrow.Author.Tests.{tests}
use Rattle.std.proofs.lemmas.Iterator.{YieldsList-from_slice}
use Rattle.std.proofs.lemmas.Iterator.Search.{all_from_yields_List}
use Rattle.store.specs.Store.{empty}
use Rattle.shape.specs.Shape.{all_formed}
use Rattle.shape.proofs.Alls.{each_list}
use Rattle.shape.proofs.lists_formed.Goals as goal

pub returns : goal.returns
returns c =
    all_from_yields_List all_formed _ _ _ c.all.ensures.ran (YieldsList-from_slice c.args.lists (cc)) (λ x b q k. search (rules, tests))
    ∙ each_list all_formed c.args.lists empty (search rules)
