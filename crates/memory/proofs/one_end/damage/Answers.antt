-- `memory::one_end::damage` meets its contract: a packet changes the receiving half, a message nothing.
-- Assumes nothing.
use Rattle.setup.specs.declared.Setup.{Setup}
use Rattle.memory.proofs.EndLaws.{damage-packet, damage_message}
use Rattle.memory.proofs.one_end.damage.Goals as goal

pub returns-in-Packet-clause-value : goal.returns-in-Packet-clause-value
returns-in-Packet-clause-value c =
    λ (link : Setup).
    damage-packet link c.args.m.now c.requires _ _ c.frame_in.ensures _ _ c.in-Packet.is c.damage.new.r c.damage.ensures.r_after c.damage.ensures.r_len

pub returns-in_default-clause-value : goal.returns-in_default-clause-value
returns-in_default-clause-value c =
    λ (link : Setup). damage_message link c.args.m.now c.requires _ _ c.frame_in.ensures _ c.in_default.is
