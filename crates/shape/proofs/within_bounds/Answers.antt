-- `shape::within_bounds` meets its contract: std's `all` asks the queue and the receive buffer of each channel.
-- Assumes nothing.
use Rattle.std.proofs.Common.{rules, arith, ◌≡◌, get_or}
use mathlib.Core.Path.{◌∙◌}
use borrow.Author.Tests.{tests}
use Rattle.std.proofs.lemmas.Grind.{common_steps}
use Rattle.std.proofs.lemmas.Iterator.{YieldsList-from_slice}
use Rattle.std.proofs.lemmas.Iterator.Search.{all_from_yields_List}
use Rattle.basics.specs.Each.{each}
use Rattle.setup.specs.Setup.{channels}
use Rattle.store.specs.Store.{empty}
use Rattle.shape.specs.Shape.{queue_bound, inbox_bound, within_bounds}
use Rattle.shape.proofs.Alls.{each_list}
use Rattle.shape.proofs.within_bounds.Goals as goal

pub returns-then-s-le-BUFFER : goal.returns-then-s-le-BUFFER
unfolding within_bounds
returns-then-s-le-BUFFER c =
    let queues : c.all.result ≡ each channels (λ k. queue_bound (get_or c.args.s.queues k empty)) =
    all_from_yields_List queue_bound _ _ _ c.all.ensures.ran (YieldsList-from_slice c.args.s.queues (cc)) (λ x b q k. search (rules, tests))
    ∙ each_list queue_bound c.args.s.queues empty (search rules)
    in
    let inboxes : c.all-then-s-le-BUFFER.result ≡ each channels (λ k. inbox_bound (get_or c.args.r.inboxes k empty)) =
    all_from_yields_List inbox_bound _ _ _ c.all-then-s-le-BUFFER.ensures.ran (YieldsList-from_slice c.args.r.inboxes (cc)) (λ x b q k. search (rules, tests))
    ∙ each_list inbox_bound c.args.r.inboxes empty (search rules)
    in
    grind (arith, common_steps)

pub returns-else-s-le-BUFFER : goal.returns-else-s-le-BUFFER
unfolding within_bounds
returns-else-s-le-BUFFER c =
    let queues : c.all.result ≡ each channels (λ k. queue_bound (get_or c.args.s.queues k empty)) =
    all_from_yields_List queue_bound _ _ _ c.all.ensures.ran (YieldsList-from_slice c.args.s.queues (cc)) (λ x b q k. search (rules, tests))
    ∙ each_list queue_bound c.args.s.queues empty (search rules)
    in
    grind (arith, common_steps)
