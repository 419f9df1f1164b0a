-- `memory::sending::timer` meets its contract: the branch is the definition's test.
-- Assumes nothing.
use native.Mathlib.Omega.{arith}
use mathlib.Core.Path.{◌≡◌, refl}
use lib.ListN.{length}
use Rattle.words.specs.Memory.{sender_words}
use Rattle.memory.proofs.SendingLaws.{timer-not, timer_goes}
use Rattle.memory.proofs.KeepLaws.{made}
use Rattle.memory.proofs.sending.timer.Goals as goal

pub returns-then-s-eq0 : goal.returns-then-s-eq0
returns-then-s-eq0 c =
    let l : length c.args.s.now ≡ sender_words = omega arith in
    record { value = timer-not c.args.s.now l c.if-s-eq0.true; s_len = l; keeps = λ _. refl }

pub returns : goal.returns
returns c =
    record { value = timer_goes c.args.s.now (omega arith) _ c.if-s-eq0.false c.begin.ensures.s_after; s_len = c.begin.ensures.s_len; keeps = made }
