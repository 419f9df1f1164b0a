-- `memory::sending::waiting` meets its contract.
-- Assumes nothing.
use native.Mathlib.Omega.{arith}
use mathlib.Core.Path.{sym, ◌∙◌, ap}
use lib.ListN.{length}
use Rattle.store.specs.declared.Packets.{Packets}
use Rattle.store.specs.Store.{held, of_category}
use Rattle.memory.proofs.SendingLaws.{queue-read, none_waits}
use Rattle.memory.proofs.sending.waiting.Goals as goal

pub returns-then-channel-lt-CHANNELS : goal.returns-then-channel-lt-CHANNELS
returns-then-channel-lt-CHANNELS c =
    c.count_of.ensures
    ∙ ap (λ (q : Packets). length (of_category c.args.c (held q))) (queue-read c.args.s.now (omega arith) c.args.channel c.if-channel-lt-CHANNELS.true)

pub returns : goal.returns
returns c =
    sym (none_waits c.args.s.now (omega arith) c.args.channel c.if-channel-lt-CHANNELS.false c.args.c)
