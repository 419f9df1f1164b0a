-- `memory::receiving::word_at` meets its contract.
-- Assumes nothing.
use native.Mathlib.Omega.{arith}
use mathlib.Core.Path.{ap, ◌∙◌}
use Rattle.store.specs.declared.Packets.{Packets}
use Rattle.store.specs.Store.{at}
use Rattle.memory.proofs.ReceivingLaws.{inbox-here}
use Rattle.memory.proofs.receiving.word_at.Goals as goal

pub returns : goal.returns
returns c =
    c.word_at.ensures ∙ ap (λ (q : Packets). at q c.args.place) (inbox-here c.args.r.now (omega arith) c.args.channel (omega arith))
