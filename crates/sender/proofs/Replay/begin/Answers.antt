-- `sender::Replay::begin` meets its contract: the branch is the definition's test.
-- Assumes nothing.
use borrow.Author.Tests.{lt-ltb, le-ltb}
use Rattle.sender.specs.Sender.{begun}
use Rattle.sender.proofs.Replay.begin.Goals as goal

pub returns-then-self-lt3 : goal.returns-then-self-lt3
unfolding begun
returns-then-self-lt3 c = simp (begun, lt-ltb _ _ c.if-self-lt3.true)

pub returns : goal.returns
unfolding begun
returns c = simp (begun, le-ltb _ _ c.if-self-lt3.false, c.grow-again.ensures)
