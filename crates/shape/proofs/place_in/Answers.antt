-- `shape::place_in` meets its contract: a case of the definition for each.
-- Assumes nothing.
use Rattle.shape.proofs.place_in.Goals as goal

pub returns-in-Some : goal.returns-in-Some
returns-in-Some c = simp c.in-Some.is

pub returns-in-None : goal.returns-in-None
returns-in-None c = simp c.in-None.is
