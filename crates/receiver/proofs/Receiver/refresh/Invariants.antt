-- `receiver::Receiver::refresh` meets its contract: the invariant: the rooms of the slots passed are marked, and those behind them are as they were.
-- Assumes nothing.
use mathlib.Core.Path.{◌≡◌}
use mathlib.Core.List.{map}
use lib.ListN.{take}
use Rattle.basics.proofs.Parts.{filled}
use Rattle.credits.specs.Credits.{marked}
use Rattle.receiver.specs.Receiver.{receiver}
use Rattle.receiver.proofs.Receiver.refresh.Given as goal

abbrev pub invariant-loop-slot : goal.invariant-loop-slot
invariant-loop-slot l = l.r ≡ receiver l.self.inboxes (filled l.slot (map marked (take l.slot l.self.rooms)) l.self.rooms) l.self.reply
