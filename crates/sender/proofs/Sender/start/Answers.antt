-- `sender::Sender::start` meets its contract: field by field.
-- Assumes nothing.
use Rattle.sender.specs.Sender.{start_of}
use Rattle.sender.proofs.Sender.start.Goals as goal

pub returns : goal.returns
unfolding start_of
returns c =
    simp (start_of, c.start-retrains.ensures, c.previous-acked.ensures, c.start-next.ensures, c.empty-empty.ensures, c.credits_for-credits.ensures)
