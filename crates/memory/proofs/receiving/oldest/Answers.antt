-- `memory::receiving::oldest` meets its contract.
-- Assumes nothing.
use native.Mathlib.Omega.{arith}
use mathlib.Core.Path.{ap, ◌∙◌}
use Rattle.basics.specs.Lists.{find}
use Rattle.store.specs.declared.Packets.{Packets}
use Rattle.store.specs.Store.{held, is_of}
use Rattle.memory.proofs.ReceivingLaws.{inbox-here}
use Rattle.memory.proofs.receiving.oldest.Goals as goal

pub returns : goal.returns
returns c =
    c.oldest.ensures ∙ ap (λ (q : Packets). find (is_of c.args.c) (held q) 0) (inbox-here c.args.r.now (omega arith) c.args.channel (omega arith))
