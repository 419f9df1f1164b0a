-- `memory::one_end::timer` meets its contract: the sending half comes back.
-- Assumes nothing.
use Rattle.setup.specs.declared.Setup.{Setup}
use Rattle.words.specs.Memory.{sender_words, end_in}
use Rattle.memory.proofs.EndLaws.{by_sender_lem}
use Rattle.memory.proofs.KeepLaws.{keeps-back}
use Rattle.memory.proofs.one_end.timer.Goals as goal

pub returns-clause-value : goal.returns-clause-value
unfolding end_in
returns-clause-value c = λ (link : Setup). by_sender_lem link c.args.m.now c.requires c.timer.new.s _ _ c.timer.ensures.value c.timer.ensures.s_len

pub returns-clause-keeps : goal.returns-clause-keeps
returns-clause-keeps c = keeps-back c.args.m.now 0 sender_words c.timer.new.s _ c.timer.ensures.keeps
