-- `memory::sending::new_word` meets its contract.
-- Assumes nothing.
use native.Mathlib.Omega.{arith}
use mathlib.Core.Path.{◌∙◌, ap}
use Rattle.store.specs.declared.Packets.{Packets}
use Rattle.store.specs.Store.{at}
use Rattle.memory.proofs.SendingLaws.{queue-read}
use Rattle.memory.proofs.sending.new_word.Goals as goal

pub returns : goal.returns
returns c =
    c.word_at.ensures ∙ ap (λ (q : Packets). at q c.args.place) (queue-read c.args.s.now (omega arith) c.args.channel (omega arith))
