-- How many packets of a direction are accepted and not yet taken, channel by channel. Assumes nothing.
use Rattle.std.specs.Prelude.{ℕ, ◌-◌, List, length}
use Rattle.packets.specs.declared.Packet.{Packet}
use Rattle.setup.specs.declared.Setup.{Setup}
use Rattle.setup.specs.Setup.{channels}
use Rattle.amounts.specs.Amounts.{on}
use Rattle.quiet.specs.Burden.{sum}

unfoldable pub untaken_of : Setup → List Packet → List Packet → ℕ
untaken_of link accepted taken = sum channels (λ channel. length (on link channel accepted) - length (on link channel taken))
