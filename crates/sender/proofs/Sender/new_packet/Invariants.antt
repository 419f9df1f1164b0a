-- `sender::Sender::new_packet` meets its contract. The invariant: no channel from c on has an eligible packet.
-- Assumes nothing.
use mathlib.Core.Path.{◌≡◌}
use Rattle.sender.specs.Sources.{highest, new_of}
use Rattle.sender.proofs.Sender.new_packet.Given as goal

abbrev pub invariant-loop-c : goal.invariant-loop-c
invariant-loop-c l = new_of l.self ≡ highest l.self l.c
