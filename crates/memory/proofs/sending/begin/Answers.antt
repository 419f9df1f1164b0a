-- `memory::sending::begin` meets its contract.
-- Assumes nothing.
use native.Mathlib.Omega.{arith}
use mathlib.Core.Path.{◌∙◌, ap}
use Rattle.sender.specs.Sender.{begun}
use Rattle.memory.proofs.SendingLaws.{replay-back}
use Rattle.memory.proofs.sending.begin.Goals as goal

pub returns : goal.returns
returns c =
    let both = replay-back c.args.s.now (omega arith) c.write_replay.new.x _ c.write_replay.ensures.x_len
    (c.write_replay.ensures.x_after ∙ c.begin-r.ensures ∙ ap begun c.replay.ensures) in
    record { s_after = both.0; s_len = both.1 }
