-- `memory::one_end::refresh` meets its contract: the receiving half comes back.
-- Assumes nothing.
use mathlib.Core.Path.{◌≡◌}
use Rattle.setup.specs.declared.Setup.{Setup}
use Rattle.memory.proofs.EndLaws.{refreshes}
use Rattle.memory.proofs.one_end.refresh.Goals as goal

pub returns-clause-m_after : goal.returns-clause-m_after
returns-clause-m_after c =
    λ (link : Setup) (of : c.args.n ≡ link.n). refreshes link c.args.m.now c.requires c.refresh.new.r c.args.n of c.refresh.ensures.r_after c.refresh.ensures.r_len
