-- Each packet's units are rounded up before they are added: the sum of the words, rounded once, is too little.
-- Assumes nothing.
use mathlib.Core.Path.{◌≡◌, refl}
use mathlib.Core.List.{[], ◌∷◌}
use Prim.Native.Nat.{ℕ}
use lib.ListN.{replicate}
use Rattle.packets.specs.declared.Packet.{Packet}
use Rattle.packets.specs.Packets.{rule_of, data_units, data_together}

-- a memory write of so many words
abbrev pub write : ℕ → Packet
write n = record { kind = 1; class = 0; length = n; ident = 0 }

-- sixteen packets of 5 words need 32 units, not 20
pub sixteen_of_five : data_together (replicate 16 (write 5)) ≡ 32
unfolding data_units rule_of
sixteen_of_five = refl

-- two packets of 2 words cost 2 units, not 1
pub two-of-two : data_together (write 2 ∷ write 2 ∷ []) ≡ 2
unfolding data_units rule_of
two-of-two = refl
