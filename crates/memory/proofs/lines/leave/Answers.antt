-- `memory::lines::leave` meets its contract: the branches are the definition's tests.
-- Assumes nothing.
use Prim.Native.Nat.{◌*◌}
use mathlib.Core.Path.{refl}
use borrow.Author.Tests.{le-leb, lt-leb}
use lib.ListN.{get_or}
use Rattle.line.specs.Line.{rest_of}
use Rattle.words.specs.Memory.{line_places, line_in}
use Rattle.memory.proofs.LinesLaws.{rest-is}
use Rattle.memory.proofs.lines.leave.Goals as goal
use Rattle.memory.proofs.lines.leave.Goals.{else-n-ge1-via-then-n-ge1+else-n-le-FRAMES, else-n-ge1-via-else-n-ge1}

pub returns-then-n-le-FRAMES : goal.returns-then-n-le-FRAMES
returns-then-n-le-FRAMES c =
    let both = rest-is c.args.l.now c.requires (get_or c.args.l.now (2 * line_places) 0) refl c.if-n-ge1.true c.if-n-le-FRAMES.true c.copy_within.new.self c.copy_within.ensures.after in
    record { l_after = both.0; l_len = both.1 }

pub returns-else-n-ge1-clause-l_after : goal.returns-else-n-ge1-clause-l_after
unfolding rest_of line_in
returns-else-n-ge1-clause-l_after c =
    elim c.else-n-ge1.branch [
      | else-n-ge1-via-then-n-ge1+else-n-le-FRAMES w ↦ simp (rest_of, line_in, le-leb _ _ w.if-n-ge1.true, lt-leb _ _ w.if-n-le-FRAMES.false)
      | else-n-ge1-via-else-n-ge1 w ↦ simp (rest_of, line_in, lt-leb _ _ w.if-n-ge1.false)
    ]
