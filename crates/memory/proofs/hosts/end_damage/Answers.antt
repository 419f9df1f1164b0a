-- `hosts::end_damage` meets its contract: the end steps on its own words, and the setup behind it stays.
-- Assumes nothing.
use mathlib.Core.Path.{sym, ap}
use lib.Dec.{eqb}
use Rattle.memory.specs.declared.hosts.Said.{Said}
use Rattle.memory.proofs.KeepLaws.{made}
use Rattle.memory.specs.Hosted.{hosted_in, link_in}
use Rattle.memory.proofs.HostLaws.{leaves}
use Rattle.memory.proofs.hosts.end_damage.Goals as goal

pub returns-clause-leaves : goal.returns-clause-leaves
unfolding hosted_in
returns-clause-leaves c =
    let a = c.damage.ensures in
    leaves c.args.m.now c.if-m-ne-HOSTED.false _ _ (sym (ap (λ (s : Said). eqb s.answer 0) c.say-2.ensures)) _ _ (a.value (link_in c.args.m.now)).1 a.m_len made
