-- `hearing::again` meets its contract: the branch is the definition's test.
-- Assumes nothing.
use borrow.Author.Tests.{eq-eqb, ne_eqb}
use Rattle.hearing.specs.Hearing.{again}
use Rattle.hearing.proofs.again.Goals as goal

pub returns-then-s-eq0 : goal.returns-then-s-eq0
unfolding again
returns-then-s-eq0 c = simp (again, eq-eqb _ _ c.if-s-eq0.true)

pub returns : goal.returns
unfolding again
returns c = simp (again, ne_eqb _ _ c.if-s-eq0.false, c.begin.ensures)
