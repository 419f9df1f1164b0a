-- `memory::sending::chosen_in` meets its contract.
-- Assumes nothing.
use native.Mathlib.Omega.{arith}
use mathlib.Core.Path.{◌∙◌}
use Rattle.memory.proofs.SendingLaws.{chosen-read}
use Rattle.memory.proofs.sending.chosen_in.Goals as goal

pub returns : goal.returns
returns c =
    c.choose.ensures ∙ chosen-read c.args.s.now (omega arith) c.args.channel (omega arith)
