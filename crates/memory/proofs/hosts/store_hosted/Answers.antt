-- `hosts::store_hosted` meets its contract: the end, then its setup, each in its own part.
-- Assumes nothing.
use Rattle.memory.proofs.HostLaws.{hosted_stored}
use Rattle.memory.proofs.hosts.store_hosted.Goals as goal

pub returns-clause-m_after : goal.returns-clause-m_after
returns-clause-m_after c =
    hosted_stored c.args.m.now c.requires c.args.e c.store_end.new.m c.store_setup.new.x (c.store_end.ensures.m_after, c.store_end.ensures.m_len) (c.store_setup.ensures.x_after, c.store_setup.ensures.x_len)
