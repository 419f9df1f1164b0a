-- `runs::run_kept` meets its contract: the pair is written into the memory, run there, and read back.
-- Assumes nothing.
use Rattle.std.proofs.Common.{◌≡◌, ℕ, ◌/◌, List, length, replicate}
use lib.ListN.{length-replicate}
use Rattle.setup.specs.Setup.{blank_setup}
use Rattle.script.specs.Script.{steps_in}
use Rattle.pairs.specs.Pairs.{start_of}
use Rattle.words.specs.Memory.{pair_words, pair_in}
use Rattle.memory.specs.Unasked.{setups_of}
use Rattle.runs.proofs.Kept.{stored-pair, stored_lasts, run-back, answers_back}
use Rattle.runs.proofs.run_kept.Goals as goal

-- the memory before the pair is written
abbrev zeros : List ℕ
zeros = replicate pair_words 0

all-zeros : length zeros ≡ pair_words
all-zeros = length-replicate {A = ℕ} pair_words 0

pub run_words-requires : goal.run_words-requires
run_words-requires c =
    stored_lasts c.args.r.pair (pair_in (setups_of c.args.r.pair) zeros) c.setups_of-links.result zeros c.store.new.m all-zeros c.setups_of-links.ensures c.store.ensures.m_after c.store.ensures.m_len_unchanged c.requires

pub returns : goal.returns
returns c =
    let steps = steps_in c.args.l.now (length c.args.l.now / 6) in
    let st = stored-pair c.args.r.pair (pair_in (setups_of c.args.r.pair) zeros) c.setups_of-links.result zeros c.store.new.m all-zeros c.setups_of-links.ensures c.store.ensures.m_after in (
      run-back c.setups_of-links.result c.store.new.m c.run_words.new.m c.args.r c.run_words.result steps st (start_of blank_setup).pair c.load.result c.run_words.ensures.m_len c.load.ensures (rw c.counted.ensures at c.run_words.ensures.result_after),
      answers_back c.setups_of-links.result c.store.new.m c.run_words.new.m c.args.r c.run_words.result steps st _ _ (rw c.counted.ensures at c.run_words.ensures.out_after),
    )
