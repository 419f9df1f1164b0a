-- `memory::sending::submit` meets its contract.
-- Assumes nothing.
use native.Mathlib.Omega.{arith}
use mathlib.Core.Path.{◌≡◌, ◌∙◌, ap}
use lib.ListN.{length}
use Rattle.store.specs.declared.Packets.{Packets}
use Rattle.store.specs.Store.{pushed}
use Rattle.sender.specs.Sender.{submitted}
use Rattle.words.specs.Words.{packet_in}
use Rattle.words.specs.Memory.{sender_words}
use Rattle.memory.proofs.SendingLaws.{queue-read, queue-back, none-joins}
use Rattle.memory.proofs.sending.submit.Goals as goal

pub returns-then-channel-lt-CHANNELS : goal.returns-then-channel-lt-CHANNELS
unfolding submitted
returns-then-channel-lt-CHANNELS c =
    let l : length c.args.s.now ≡ sender_words = omega arith in
    let both = queue-back c.args.s.now l c.args.channel c.if-channel-lt-CHANNELS.true c.push.new.q _ c.push.ensures.q_len
    (c.push.ensures.q_after ∙ ap (λ (q : Packets). pushed q (packet_in c.args.w)) (queue-read c.args.s.now l c.args.channel c.if-channel-lt-CHANNELS.true)) in
    record { s_after = both.0; s_len = both.1 }

pub returns-else-channel-lt-CHANNELS : goal.returns-else-channel-lt-CHANNELS
returns-else-channel-lt-CHANNELS c =
    let l : length c.args.s.now ≡ sender_words = omega arith in
    record { s_after = none-joins c.args.s.now l c.args.channel c.if-channel-lt-CHANNELS.false (packet_in c.args.w); s_len = l }
