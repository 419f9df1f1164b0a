-- `memory::step_end` meets its contract: Submit and Take, whose numbers fit their bytes.
-- Assumes nothing.
use native.Mathlib.Omega.{arith}
use mathlib.Core.Path.{◌≡◌, refl}
use Rattle.std.proofs.lemmas.Result.{err_from_is_err_and}
use Rattle.memory.proofs.StepLaws.{is_submit_lem, is_take_lem}
use Rattle.memory.proofs.step_end.Goals as goal

pub returns-in_err-submit-in-Some-Submit-clause-value : goal.returns-in_err-submit-in-Some-Submit-clause-value
returns-in_err-submit-in-Some-Submit-clause-value c =
    let first : c.args.t.step ≡ 1 = grind (arith, c.action.ensures, c.in-Some-Submit.is) in
    let p = err_from_is_err_and c.from_residual.result c.from_residual.ensures.1 in
    rw (p.1, p.2) (is_submit_lem c.args.link c.args.m.now c.args.t c.submit.new.m first _ c.packet_of.ensures _ c.in_err-submit-in-Some-Submit.ensures.value)

pub returns-in_ok-submit-in-Some-Submit-clause-value : goal.returns-in_ok-submit-in-Some-Submit-clause-value
returns-in_ok-submit-in-Some-Submit-clause-value c =
    let first : c.args.t.step ≡ 1 = grind (arith, c.action.ensures, c.in-Some-Submit.is) in
    is_submit_lem c.args.link c.args.m.now c.args.t c.submit.new.m first _ c.packet_of.ensures _ c.in_ok-submit-in-Some-Submit.ensures.value

pub returns-in-Some-Take-clause-value : goal.returns-in-Some-Take-clause-value
returns-in-Some-Take-clause-value c =
    let sixth : c.args.t.step ≡ 6 = grind (arith, c.action.ensures, c.in-Some-Take.is) in
    is_take_lem c.args.link c.args.m.now c.args.t c.take.new.m sixth _ _ _ c.capped-channel.ensures.0 c.capped-category.ensures.0 (c.take.ensures.value c.args.link refl)
