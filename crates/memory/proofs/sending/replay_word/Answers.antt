-- `memory::sending::replay_word` meets its contract.
-- Assumes nothing.
use Rattle.words.specs.Memory.{sender_in}
use Rattle.memory.proofs.sending.replay_word.Goals as goal

pub returns : goal.returns
unfolding sender_in
returns c = c.word_at.ensures
