-- `sender::Sender::with_credit` meets its contract: a store past the last channel changes nothing.
-- Assumes nothing.
use Rattle.std.proofs.Common.{rules}
use native.Mathlib.Omega.{arith}
use mathlib.Core.Path.{◌≡◌}
use lib.ListN.{length}
use lib.Seq.{set_out}
use Rattle.packets.specs.Packets.{slot_of}
use Rattle.sender.proofs.Sender.with_credit.Goals as goal

pub returns-then-channel-ge-CHANNELS : goal.returns-then-channel-ge-CHANNELS
returns-then-channel-ge-CHANNELS c =
    let long : length c.args.self.credits ≡ 12 = search rules in
    rw (set_out c.args.self.credits (slot_of c.args.channel c.args.c) c.args.credit (omega (arith, long)))

pub returns : goal.returns
returns c = rw (← c.slot-at.ensures.value)
