-- `runs_export::script_taken` meets its contract: the test of the answer is the definition's, and a list that was read holds the steps.
-- Assumes nothing.
use Rattle.std.proofs.Common.{arith, refl}
use Rattle.answers.proofs.Outcomes.{no_refusal_is_0}
use Rattle.script.proofs.Reader.{list_fits}
use Rattle.runs_export.specs.Taken.{taken_in}
use Rattle.runs_export.proofs.script_taken.Goals as goal

pub taken_after-requires : goal.taken_after-requires
taken_after-requires c =
    let read = list_fits c.args.b.now c.args.l.now _ c.in-Ok.ensures.0 refl in
    omega arith
