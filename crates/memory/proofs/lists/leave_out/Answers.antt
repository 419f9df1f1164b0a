-- `memory::lists::leave_out` meets its contract: the branches are the definition's tests.
-- Assumes nothing.
use mathlib.Core.Path.{refl}
use borrow.Author.Tests.{le-leb, lt-leb}
use lib.ListN.{get_or}
use Rattle.store.specs.Store.{without}
use Rattle.words.specs.Memory.{places}
use Rattle.memory.proofs.ListsLaws.{left_out}
use Rattle.memory.proofs.lists.leave_out.Goals as goal
use Rattle.memory.proofs.lists.leave_out.Goals.{else-b-n-via-then-b-n+else-n-le-PLACES, else-b-n-via-else-b-n}

pub returns-then-n-le-PLACES : goal.returns-then-n-le-PLACES
returns-then-n-le-PLACES c =
    let n = get_or c.args.q.now places 0 in
    let both = left_out c.args.q.now c.requires.0 c.args.a c.args.b n refl c.requires.1 c.if-b-n.true c.if-n-le-PLACES.true c.copy_within.new.self c.copy_within.ensures.after in
    record { q_after = both.0; q_len = both.1 }

pub returns-else-b-n-clause-q_after : goal.returns-else-b-n-clause-q_after
unfolding without
returns-else-b-n-clause-q_after c =
    elim c.else-b-n.branch [
      | else-b-n-via-then-b-n+else-n-le-PLACES w ↦ simp (without, le-leb _ _ c.requires.1, le-leb _ _ w.if-b-n.true, lt-leb _ _ w.if-n-le-PLACES.false)
      | else-b-n-via-else-b-n w ↦ simp (without, le-leb _ _ c.requires.1, lt-leb _ _ w.if-b-n.false)
    ]
