-- `sender::credit_of` meets its contract.
-- Assumes nothing.
use Rattle.sender.proofs.credit_of.Goals as goal

pub returns : goal.returns
returns c = simp (c.start.ensures, c.advertised.ensures)
