-- `hosts::end_arrive` meets its contract: the end steps on its own words, and the setup behind it stays.
-- Assumes nothing.
use Rattle.memory.specs.Hosted.{hosted_in}
use Rattle.memory.proofs.HostLaws.{leaves, says_0}
use Rattle.memory.proofs.hosts.end_arrive.Goals as goal

pub returns-clause-leaves : goal.returns-clause-leaves
unfolding hosted_in
returns-clause-leaves c =
    let a = c.arrive.ensures in
    leaves c.args.m.now c.if-m-ne-HOSTED.false _ _ (says_0 _ _ c.say-2.ensures) _ _ (rw c.setup_in-link.ensures at a.value.1) a.m_len a.keeps
