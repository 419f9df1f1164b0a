-- `memory::reach_at` meets its contract: no frame, a frame that the end refuses, or the end and the line without it.
-- Assumes nothing.
use native.Mathlib.Omega.{arith}
use mathlib.Core.Path.{refl}
use Rattle.std.proofs.lemmas.Result.{err_from_is_err_and}
use Rattle.answers.specs.Answers.{number_of}
use Rattle.answers.proofs.Outcomes.{never_0}
use Rattle.memory.specs.Unasked.{frame_step}
use Rattle.memory.proofs.PairLaws.{own_setup, reach_none, reach_refused, reach_taken}
use Rattle.memory.proofs.reach_at.Goals as goal

pub returns-then-m-l-eq0-clause-value : goal.returns-then-m-l-eq0-clause-value
returns-then-m-l-eq0-clause-value c =
    reach_none c.args.links c.args.m.now c.requires.0 c.args.i c.requires.1 (frame_step c.args.whole) c.if-m-l-eq0.true

pub returns-in_err-detail-clause-value : goal.returns-in_err-detail-clause-value
returns-in_err-detail-clause-value c =
    let p = err_from_is_err_and c.from_residual.result c.from_residual.ensures.1 in
    let refusal = c.in_err-detail.field-0.0 in
    rw (p.1, p.2)
    (reach_refused c.args.links c.args.m.now c.requires.0 c.args.i c.requires.1 c.if-m-l-eq0.false _ (own_setup c.args.links c.args.i (omega arith)) (frame_step c.args.whole) c.reach.new.m
    (number_of refusal) (never_0 refusal) c.in_err-detail.ensures.value.0 (c.in_err-detail.ensures.keeps refl))

pub returns-clause-value : goal.returns-clause-value
returns-clause-value c =
    reach_taken c.args.links c.args.m.now c.requires.0 c.args.i c.requires.1 c.if-m-l-eq0.false _ (own_setup c.args.links c.args.i (omega arith)) (frame_step c.args.whole) c.reach.new.m
    c.in_ok-detail.detail c.in_ok-detail.ensures.value.0 c.in_ok-detail.ensures.value.1 c.in_ok-detail.ensures.m_len c.leave.new.l c.leave.ensures.l_after c.leave.ensures.l_len
