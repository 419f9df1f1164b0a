-- `hearing::moved` meets its contract: a case of the definition for each branch.
-- Assumes nothing.
use borrow.Author.Tests.{le-leb, lt-leb, eq-eqb, ne_eqb}
use Rattle.hearing.proofs.moved.Goals as goal

pub returns-in_default : goal.returns-in_default
returns-in_default c = simp c.in_default.is

pub returns-then-k-i : goal.returns-then-k-i
returns-then-k-i c = simp (c.in-Some.is, le-leb _ _ c.if-k-i.true)

pub returns-then-left-eq0 : goal.returns-then-left-eq0
returns-then-left-eq0 c = simp (c.in-Some.is, lt-leb _ _ c.if-k-i.false, eq-eqb _ _ c.if-left-eq0.true)

pub returns : goal.returns
returns c = simp (c.in-Some.is, lt-leb _ _ c.if-k-i.false, ne_eqb _ _ c.if-left-eq0.false)
