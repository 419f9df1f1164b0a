-- `memory::messages::answer` meets its contract: the branches are the definition's tests.
-- Assumes nothing.
use native.Mathlib.Omega.{arith}
use mathlib.Core.Path.{◌≡◌, refl}
use lib.ListN.{length}
use Rattle.std.proofs.lemmas.Result.{err_from_is_err_and}
use Rattle.answers.specs.Answers.{number_of}
use Rattle.answers.proofs.Outcomes.{never_0}
use Rattle.words.specs.Memory.{sender_words}
use Rattle.memory.proofs.MessageLaws.{answer-read, answered-not, answered-nak, answered-ack}
use Rattle.memory.proofs.messages.answer.Goals as goal

pub returns-in_err-ack_answer-clause-value : goal.returns-in_err-ack_answer-clause-value
returns-in_err-ack_answer-clause-value c =
    let l : length c.args.s.now ≡ sender_words = omega arith in
    let p = err_from_is_err_and c.from_residual.result c.from_residual.ensures.1 in
    let refusal = c.in_err-ack_answer.field-0.0 in
    rw (p.1, p.2)
    (answered-not _ c.args.number c.args.nak (number_of refusal) (answer-read c.args.s.now l c.args.number _ _ c.from_word.ensures c.in_err-ack_answer.ensures) (never_0 refusal))

pub returns-then-nak-clause-value : goal.returns-then-nak-clause-value
returns-then-nak-clause-value c =
    let l : length c.args.s.now ≡ sender_words = omega arith in
    answered-nak _ c.args.number c.args.nak 0 (answer-read c.args.s.now l c.args.number _ _ c.from_word.ensures c.in_ok-ack_answer.ensures) refl
    _ c.acknowledge.ensures.s_after _ c.if-nak.true c.again.ensures.s_after

pub returns-else-nak-clause-value : goal.returns-else-nak-clause-value
returns-else-nak-clause-value c =
    let l : length c.args.s.now ≡ sender_words = omega arith in
    answered-ack _ c.args.number c.args.nak 0 (answer-read c.args.s.now l c.args.number _ _ c.from_word.ensures c.in_ok-ack_answer.ensures) refl
    _ c.acknowledge.ensures.s_after c.if-nak.false
