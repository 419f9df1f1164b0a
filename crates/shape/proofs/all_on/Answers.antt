-- `shape::all_on` meets its contract: std's `all` asks each packet that is held.
-- Assumes nothing.
use Rattle.std.proofs.Common.{rules}
use mathlib.Core.Path.{◌∙◌}
use borrow.Author.Tests.{tests}
use Rattle.std.proofs.lemmas.Iterator.{YieldsList-from_slice}
use Rattle.std.proofs.lemmas.Iterator.Search.{all_from_yields_List}
use Rattle.store.specs.Store.{held}
use Rattle.shape.specs.Shape.{is_on}
use Rattle.shape.proofs.Alls.{all_list, front_same}
use Rattle.shape.proofs.all_on.Goals as goal

pub returns : goal.returns
returns c =
    all_from_yields_List (is_on c.args.link c.args.channel) _ _ _ c.all.ensures.ran (YieldsList-from_slice (held c.args.q) (rw c.size.ensures.value at c.iter.ensures.rest ∙ front_same c.args.q.len c.args.q.items))
    (λ x b q k. search (rules, tests))
    ∙ all_list (is_on c.args.link c.args.channel) (held c.args.q)
