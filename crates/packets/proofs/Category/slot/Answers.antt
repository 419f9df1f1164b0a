-- `packets::Category::slot` meets its contract: a category's number is at most 2.
-- Assumes nothing.
use native.Mathlib.Omega.{arith}
use Rattle.packets.proofs.Numbers.{number_below}
use Rattle.packets.proofs.Category.slot.Goals as goal

pub overflow_add-result : goal.overflow_add-result
overflow_add-result c = omega (arith, c.number.ensures, number_below c.args.self)

pub returns : goal.returns
returns c = record { value = omega (arith, c.number.ensures); upper_bound = omega (arith, c.number.ensures, number_below c.args.self) }
