-- `memory::sending::new_packet` meets its contract. The invariant: no channel from c on has an eligible packet.
-- Assumes nothing.
use mathlib.Core.Path.{◌≡◌}
use Rattle.sender.specs.Sources.{highest, new_of}
use Rattle.words.specs.Memory.{sender_in}
use Rattle.memory.proofs.sending.new_packet.Given as goal

abbrev pub invariant-loop-c : goal.invariant-loop-c
invariant-loop-c l = new_of (sender_in l.s) ≡ highest (sender_in l.s) l.c
