-- `memory::one_end::submit` meets its contract: the sending half comes back.
-- Assumes nothing.
use Rattle.memory.proofs.EndLaws.{submits}
use Rattle.memory.proofs.one_end.submit.Goals as goal

pub returns-clause-value : goal.returns-clause-value
returns-clause-value c =
    submits c.args.link c.args.m.now c.requires c.args.p c.in_ok-submit_answer.ensures
    _ _ c.channel_of-channel.ensures c.to_word.ensures.result_value c.submit.new.s c.submit.ensures.s_after c.submit.ensures.s_len
