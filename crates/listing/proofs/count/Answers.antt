-- `listing::count` meets its contract: each turn takes the last digit off.
-- Assumes nothing.
use Rattle.std.proofs.Common.{rules}
use native.Mathlib.Omega.{arith}
use Rattle.listing.proofs.Digits.{length_one, length_more, some_digits, at-most_ten}
use Rattle.listing.proofs.count.Goals as goal

pub overflow_add-k : goal.overflow_add-k
overflow_add-k c = omega (arith, at-most_ten c.args.n (search rules), some_digits c.loop-rest.rest)

pub loop-rest-preserved : goal.loop-rest-preserved
loop-rest-preserved c = omega (arith, length_more c.loop-rest.rest c.loop-rest-test.true)

pub returns : goal.returns
returns c = omega (arith, length_one c.loop-rest.rest c.loop-rest-test.false)
