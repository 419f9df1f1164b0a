-- A step's numbers as an end holds them: one that is too large for its type counts as the largest that fits. The rules 12, 13, 14 and 20 refuse
-- both alike. Assumes nothing.
use Rattle.std.specs.Prelude.{ℕ, leb, if◌then◌else◌}
use Rattle.packets.specs.declared.Packet.{Packet}
use Rattle.script.specs.declared.Step.{Step}

abbrev pub capped : ℕ → ℕ → ℕ
capped most x = if leb x most then x else most

abbrev pub capped_packet : Step → Packet
capped_packet t = record { kind = capped 255 t.kind; class = capped 255 t.class; length = capped 65535 t.length; ident = t.ident }
