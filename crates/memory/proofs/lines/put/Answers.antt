-- `memory::lines::put` meets its contract: the branch is the definition's test.
-- Assumes nothing.
use Prim.Native.Nat.{◌*◌}
use mathlib.Core.Path.{refl}
use borrow.Author.Tests.{le-ltb}
use lib.ListN.{get_or}
use Rattle.line.specs.Line.{put}
use Rattle.words.specs.Memory.{line_places, line_in}
use Rattle.memory.proofs.LinesLaws.{put_is}
use Rattle.memory.proofs.lines.put.Goals as goal

pub returns-then-n-lt-FRAMES : goal.returns-then-n-lt-FRAMES
returns-then-n-lt-FRAMES c =
    let both = put_is c.args.l.now c.requires (get_or c.args.l.now (2 * line_places) 0) refl c.args.head c.args.rest c.if-n-lt-FRAMES.true in
    record { l_after = both.0; l_len = both.1 }

pub returns-else-n-lt-FRAMES : goal.returns-else-n-lt-FRAMES
unfolding put line_in
returns-else-n-lt-FRAMES c = record { l_after = simp (put, line_in, le-ltb _ _ c.if-n-lt-FRAMES.false); l_len = c.requires }
