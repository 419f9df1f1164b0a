-- `memory::lists::push` meets its contract: the branch is the definition's test.
-- Assumes nothing.
use mathlib.Core.Path.{refl}
use borrow.Author.Tests.{le-ltb}
use lib.ListN.{get_or}
use Rattle.store.specs.Store.{pushed}
use Rattle.words.specs.Memory.{places}
use Rattle.memory.proofs.ListsLaws.{put_word}
use Rattle.memory.proofs.lists.push.Goals as goal

pub returns-then-n-lt48 : goal.returns-then-n-lt48
returns-then-n-lt48 c =
    let both = put_word c.args.q.now c.requires (get_or c.args.q.now places 0) c.args.w refl c.if-n-lt48.true in
    record { q_after = both.0; q_len = both.1 }

pub returns-else-n-lt48 : goal.returns-else-n-lt48
unfolding pushed
returns-else-n-lt48 c = record { q_after = simp (pushed, le-ltb _ _ c.if-n-lt48.false); q_len = c.requires }
