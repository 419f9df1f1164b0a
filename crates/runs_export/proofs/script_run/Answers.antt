-- `runs_export::script_run` meets its contract: the test of the answer is the definition's, and a list that was read holds the steps.
-- Assumes nothing.
use Rattle.std.proofs.Common.{arith, refl}
use Rattle.answers.proofs.Outcomes.{no_refusal_is_0}
use Rattle.script.proofs.Reader.{list_fits}
use Rattle.runs_export.specs.Ran.{out_after, ran_of}
use Rattle.runs_export.proofs.script_run.Goals as goal

pub ran_after-requires : goal.ran_after-requires
ran_after-requires c =
    let read = list_fits c.args.b.now c.args.l.now _ c.in-Ok.ensures.0 refl in
    (read.0, omega arith)
