-- `hosts::end_send` meets its contract: the first source gives its frame; where there is none, nothing changes.
-- Assumes nothing.
use Rattle.memory.proofs.HostLaws.{sends_frame, sends_none}
use Rattle.memory.proofs.hosts.end_send.Goals as goal

pub returns-in_default : goal.returns-in_default
returns-in_default c =
    let both = sends_none c.args.m.now c.if-m-ne-HOSTED.false c.first_source.result c.first_source.ensures c.in_default.is _ c.no_frame-in_default.ensures in
    record { value = both.0; leaves = both.1 }

pub returns : goal.returns
returns c =
    let both = sends_frame c.args.m.now c.if-m-ne-HOSTED.false c.first_source.result c.first_source.ensures c.in-Some.source c.in-Some.is c.give-g.new.m c.give-g.ensures.m_len
    c.give-g.result c.give-g.ensures.rest_value c.give-g.ensures.m_after c.frame_in.result c.frame_in.ensures c.frame_words-w.result c.frame_words-w.ensures.head_value in
    record { value = both.0; leaves = both.1 }
