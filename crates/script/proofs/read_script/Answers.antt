-- `script::read_script` meets its contract: a refusal leaves the list, and a script that is read fills it.
-- Assumes nothing.
use mathlib.Core.Path.{◌∙◌, refl}
use Rattle.std.proofs.lemmas.Result.{err_from_is_err_and}
use Rattle.answers.proofs.Outcomes.{never_0}
use Rattle.script.proofs.Reader.{list-filled, list_fits, list_kept}
use Rattle.script.proofs.read_script.Goals as goal

pub returns-in_err-script : goal.returns-in_err-script
returns-in_err-script c =
    let p = err_from_is_err_and c.from_residual.result c.from_residual.ensures.1 in
    rw (p.1, p.2)
    (c.in_err-script.ensures, list_kept c.args.b.now c.args.l.now _ c.in_err-script.ensures (never_0 c.in_err-script.field-0.0.refusal))

pub fill_steps-requires : goal.fill_steps-requires
fill_steps-requires c = list_fits c.args.b.now c.args.l.now _ c.in_ok-script.ensures refl

pub returns : goal.returns
returns c =
    (c.in_ok-script.ensures, c.fill_steps.ensures ∙ list-filled c.args.b.now c.args.l.now _ c.in_ok-script.ensures refl)
