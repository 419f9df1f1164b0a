-- `sender::Sender::with_queue` meets its contract: a store past the last channel changes nothing.
-- Assumes nothing.
use Rattle.std.proofs.Common.{rules}
use native.Mathlib.Omega.{arith}
use mathlib.Core.Path.{◌≡◌}
use lib.ListN.{length}
use lib.Seq.{set_out}
use Rattle.sender.proofs.Sender.with_queue.Goals as goal

pub returns-then-channel-ge-CHANNELS : goal.returns-then-channel-ge-CHANNELS
returns-then-channel-ge-CHANNELS c =
    let long : length c.args.self.queues ≡ 4 = search rules in
    rw (set_out c.args.self.queues c.args.channel c.args.q (omega (arith, long)))
