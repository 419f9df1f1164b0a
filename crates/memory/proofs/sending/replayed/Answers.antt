-- `memory::sending::replayed` meets its contract.
-- Assumes nothing.
use native.Mathlib.Omega.{arith}
use mathlib.Core.Path.{◌≡◌, ◌∙◌}
use lib.ListN.{length}
use Rattle.sender.specs.Sources.{replayed}
use Rattle.words.specs.Memory.{sender_words}
use Rattle.memory.proofs.SendingLaws.{replay-back, replay_goes}
use Rattle.memory.proofs.sending.replayed.Goals as goal

pub returns : goal.returns
unfolding replayed
returns c =
    let l : length c.args.s.now ≡ sender_words = omega arith in
    let both = replay-back c.args.s.now l c.write_replay.new.x _ c.write_replay.ensures.x_len
    (c.write_replay.ensures.x_after ∙ replay_goes c.args.s.now l c.replay.result c.place_after.result c.args.i c.replay.ensures c.place_after.ensures) in
    record { s_after = both.0; s_len = both.1 }
