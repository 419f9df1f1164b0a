-- `hosts::end_refresh` meets its contract: the end steps on its own words, and the setup behind it stays.
-- Assumes nothing.
use mathlib.Core.Path.{refl}
use Rattle.memory.proofs.KeepLaws.{made}
use Rattle.memory.specs.Hosted.{hosted_in, link_in}
use Rattle.memory.proofs.HostLaws.{leaves}
use Rattle.memory.proofs.hosts.end_refresh.Goals as goal

pub returns-clause-leaves : goal.returns-clause-leaves
unfolding hosted_in
returns-clause-leaves c =
    let a = c.refresh.ensures in
    leaves c.args.m.now c.if-m-ne-HOSTED.false 0 _ refl _ _ (a.m_after (link_in c.args.m.now) c.n_in-n.ensures) a.m_len made
