-- `memory::one_end::arrive` meets its contract: a half comes back, that which the frame is for.
-- Assumes nothing.
use mathlib.Core.Path.{refl}
use Rattle.std.proofs.lemmas.Result.{err_from_is_err_and}
use Rattle.answers.specs.Answers.{number_of}
use Rattle.answers.proofs.Outcomes.{never_0}
use Rattle.words.specs.Memory.{sender_words, receiver_words}
use Rattle.memory.proofs.EndLaws.{arrive-refused, arrive-packet, arrive_message, packet_in_lem}
use Rattle.memory.proofs.KeepLaws.{keeps-back}
use Rattle.memory.proofs.one_end.arrive.Goals as goal

pub returns-in_err-answer-clause-value : goal.returns-in_err-answer-clause-value
returns-in_err-answer-clause-value c =
    let p = err_from_is_err_and c.from_residual.result c.from_residual.ensures.1 in
    let refusal = c.in_err-answer.field-0.0 in
    rw (p.1, p.2) (arrive-refused c.args.link c.args.m.now c.requires _ _ c.frame_in-f.ensures (number_of refusal) c.in_err-answer.ensures (never_0 refusal))

pub returns-in-Packet-clause-value : goal.returns-in-Packet-clause-value
returns-in-Packet-clause-value c =
    arrive-packet c.args.link c.args.m.now c.requires _ _ c.frame_in-f.ensures c.in_ok-answer.ensures
    _ _ _ c.in-Packet.is (packet_in_lem c.args.head c.args.rest _ _ _ c.frame_in-f.ensures c.in-Packet.is) _ c.channel_of-channel.ensures
    _ c.arrive.new.r c.arrive.ensures.value c.arrive.ensures.r_len

pub returns-in-Packet-clause-keeps : goal.returns-in-Packet-clause-keeps
returns-in-Packet-clause-keeps c = keeps-back c.args.m.now sender_words receiver_words c.arrive.new.r _ c.arrive.ensures.keeps

pub returns-in_err-hear-in-Message-clause-value : goal.returns-in_err-hear-in-Message-clause-value
returns-in_err-hear-in-Message-clause-value c =
    let p = err_from_is_err_and c.from_residual-in_err-hear-in-Message.result c.from_residual-in_err-hear-in-Message.ensures.1 in
    rw (p.1, p.2)
    (arrive_message c.args.link c.args.m.now c.requires _ _ c.frame_in-f.ensures c.in_ok-answer.ensures
    _ c.in-Message.is _ c.hear.new.s c.in_err-hear-in-Message.ensures.value c.in_err-hear-in-Message.ensures.s_len)

pub returns-in_err-hear-in-Message-clause-keeps : goal.returns-in_err-hear-in-Message-clause-keeps
returns-in_err-hear-in-Message-clause-keeps c = λ _. keeps-back c.args.m.now 0 sender_words c.hear.new.s _ c.in_err-hear-in-Message.ensures.keeps refl

pub returns-in_ok-hear-in-Message-clause-value : goal.returns-in_ok-hear-in-Message-clause-value
returns-in_ok-hear-in-Message-clause-value c =
    arrive_message c.args.link c.args.m.now c.requires _ _ c.frame_in-f.ensures c.in_ok-answer.ensures
    _ c.in-Message.is 0 c.hear.new.s c.in_ok-hear-in-Message.ensures.value c.in_ok-hear-in-Message.ensures.s_len
