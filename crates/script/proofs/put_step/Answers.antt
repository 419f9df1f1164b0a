-- `script::put_step` meets its contract: six stores over six numbers.
-- Assumes nothing.
use Rattle.basics.proofs.Parts.{stored}
use Rattle.script.specs.Step.{numbers_of}
use Rattle.script.proofs.put_step.Goals as goal

pub returns : goal.returns
unfolding numbers_of
returns c = stored c.args.l.now (numbers_of c.args.t) c.requires
