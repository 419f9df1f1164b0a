-- `memory::messages::again` meets its contract: the branch is the definition's test.
-- Assumes nothing.
use native.Mathlib.Omega.{arith}
use mathlib.Core.Path.{◌≡◌}
use lib.ListN.{length}
use Rattle.words.specs.Memory.{sender_words}
use Rattle.memory.proofs.MessageLaws.{again-not, again_goes}
use Rattle.memory.proofs.messages.again.Goals as goal

pub returns-then-s-ne0 : goal.returns-then-s-ne0
returns-then-s-ne0 c =
    record { s_after = again_goes c.args.s.now (omega arith) c.begin.new.s c.if-s-ne0.true c.begin.ensures.s_after; s_len = c.begin.ensures.s_len }

pub returns-else-s-ne0 : goal.returns-else-s-ne0
returns-else-s-ne0 c =
    let l : length c.args.s.now ≡ sender_words = omega arith in
    record { s_after = again-not c.args.s.now l c.if-s-ne0.false; s_len = l }
