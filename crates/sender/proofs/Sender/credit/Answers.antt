-- `sender::Sender::credit` meets its contract: past the last channel there is none.
-- Assumes nothing.
use Rattle.std.proofs.Common.{rules}
use native.Mathlib.Omega.{arith}
use mathlib.Core.Path.{◌≡◌}
use lib.ListN.{length, get_or-eq_default}
use Rattle.packets.specs.Packets.{slot_of}
use Rattle.credits.specs.Credits.{none, credit_for}
use Rattle.sender.proofs.Sender.credit.Goals as goal

pub returns-then-channel-lt-CHANNELS : goal.returns-then-channel-lt-CHANNELS
returns-then-channel-lt-CHANNELS c = rw (← c.slot.ensures.value)

pub returns : goal.returns
returns c =
    let long : length c.args.self.credits ≡ 12 = search rules in
    simp (c.start-2.ensures, c.start.ensures, get_or-eq_default c.args.self.credits (credit_for none) {n = slot_of c.args.channel c.args.c} (omega (arith, long)))
