-- `memory::one_end::take` meets its contract: the receiving half comes back.
-- Assumes nothing.
use mathlib.Core.Path.{◌≡◌}
use Rattle.setup.specs.declared.Setup.{Setup}
use Rattle.words.specs.Memory.{sender_words, receiver_words}
use Rattle.memory.proofs.EndLaws.{takes}
use Rattle.memory.proofs.KeepLaws.{keeps-back}
use Rattle.memory.proofs.one_end.take.Goals as goal

pub returns-clause-value : goal.returns-clause-value
returns-clause-value c =
    λ (link : Setup) (of : c.args.n ≡ link.n).
    takes link c.args.m.now c.requires c.take.new.r c.args.n of c.args.channel c.args.category _ c.take.ensures.value c.take.ensures.r_len

pub returns-clause-keeps : goal.returns-clause-keeps
returns-clause-keeps c = keeps-back c.args.m.now sender_words receiver_words c.take.new.r _ c.take.ensures.keeps
