-- `memory::sending::replay_number` meets its contract.
-- Assumes nothing.
use mathlib.Core.Path.{◌∙◌, ap}
use Rattle.counters.specs.declared.Seq.{Seq}
use Rattle.counters.specs.Counters.{next_of, after_of}
use Rattle.words.specs.Memory.{sender_in}
use Rattle.memory.proofs.sending.replay_number.Goals as goal

pub returns : goal.returns
unfolding sender_in
returns c =
    c.after.ensures ∙ ap (λ (x : Seq). after_of x c.args.i) (c.next.ensures ∙ ap next_of c.from_word.ensures)
