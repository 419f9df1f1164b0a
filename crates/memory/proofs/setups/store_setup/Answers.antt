-- `setups::store_setup` meets its contract: each field is written to its own part.
-- Assumes nothing.
use native.Mathlib.Omega.{arith}
use Rattle.memory.proofs.HostLaws.{setup_stored}
use Rattle.memory.proofs.setups.store_setup.Goals as goal

pub returns : goal.returns
returns c =
    let both = setup_stored c.args.x.now (omega arith) c.args.s c.to_word.result c.write_all.new.words c.write_all-2.new.words
    (omega arith) (omega arith) c.to_word.ensures.result_value c.write_all.ensures.words_after c.write_all-2.ensures.words_after in
    record { x_after = both.0; x_len = both.1 }
