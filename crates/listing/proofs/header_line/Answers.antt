-- `listing::header_line` meets its contract.
-- Assumes nothing.
use Rattle.listing.specs.Listing.{header_line}
use Rattle.listing.proofs.header_line.Goals as goal

pub returns : goal.returns
unfolding header_line
returns c = c.hand_out.ensures
