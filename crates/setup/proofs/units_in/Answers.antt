-- `setup::units_in` meets its contract: each slot has its own four bytes.
-- Assumes nothing.
use Rattle.std.proofs.Common.{rules, ◌*◌, ◌∙◌, sym}
use Rattle.basics.specs.Parts.{part}
use Rattle.basics.proofs.ByIndex.{made_list, read_by_index}
use Rattle.setup.specs.Setup.{no_units}
use Rattle.setup.specs.Bytes.{units_of}
use Rattle.setup.proofs.units_in.Goals as goal

pub returns : goal.returns
returns c =
    made_list _ (λ slot. units_of (part c.args.b.now (4 * slot) 4)) _ (λ x y q k. search rules) c.from_fn.result 24 no_units c.from_fn.ensures.items
    ∙ sym (read_by_index units_of 4 c.args.b.now 24)
