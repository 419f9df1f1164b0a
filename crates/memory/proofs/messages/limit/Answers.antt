-- `memory::messages::limit` meets its contract: the branches are the definition's tests.
-- Assumes nothing.
use native.Mathlib.Omega.{arith}
use mathlib.Core.Path.{◌≡◌, refl, ◌∙◌}
use lib.ListN.{length}
use Rattle.std.proofs.lemmas.Result.{err_from_is_err_and}
use Rattle.answers.specs.Answers.{number_of}
use Rattle.answers.proofs.Outcomes.{never_0}
use Rattle.words.specs.Memory.{sender_words}
use Rattle.memory.proofs.SendingLaws.{credit-read, credit-back}
use Rattle.memory.proofs.MessageLaws.{limited-not, limited_goes}
use Rattle.memory.proofs.messages.limit.Goals as goal

pub returns-in_err-update_answer-clause-value : goal.returns-in_err-update_answer-clause-value
returns-in_err-update_answer-clause-value c =
    let l : length c.args.s.now ≡ sender_words = omega arith in
    let p = err_from_is_err_and c.from_residual.result c.from_residual.ensures.1 in
    let refusal = c.in_err-update_answer.field-0.0 in
    rw (p.1, p.2)
    (limited-not _ c.args.channel c.args.c c.args.limits c.if-n-ge-CHANNELS.false c.from_word-credit.result
    (c.from_word-credit.ensures ∙ credit-read c.args.s.now l c.args.channel c.number.result c.args.c c.if-n-ge-CHANNELS.false c.number.ensures)
    (number_of refusal) c.in_err-update_answer.ensures (never_0 refusal))

pub returns-clause-value : goal.returns-clause-value
returns-clause-value c =
    let l : length c.args.s.now ≡ sender_words = omega arith in
    let stored =
    credit-back c.args.s.now l c.args.channel c.number.result c.args.c c.if-n-ge-CHANNELS.false c.number.ensures c.to_word.result _
    (c.to_word.ensures.result_value ∙ c.updated.ensures) in
    limited_goes _ c.args.channel c.args.c c.args.limits c.if-n-ge-CHANNELS.false c.from_word-credit.result
    (c.from_word-credit.ensures ∙ credit-read c.args.s.now l c.args.channel c.number.result c.args.c c.if-n-ge-CHANNELS.false c.number.ensures)
    0 c.in_ok-update_answer.ensures refl _ stored.0
