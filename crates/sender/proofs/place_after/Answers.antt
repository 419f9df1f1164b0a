-- `sender::place_after` meets its contract: the two tests are the definition's one.
-- Assumes nothing.
use native.Mathlib.Omega.{arith}
use Prim.Native.Nat.{◌+◌}
use borrow.Author.Tests.{lt-ltb, le-ltb}
use Rattle.sender.proofs.place_after.Goals as goal

pub returns-then-i-len-2 : goal.returns-then-i-len-2
returns-then-i-len-2 c = simp (lt-ltb _ _ c.if-i-len-2.true)

pub returns-else-i-len-2 : goal.returns-else-i-len-2
returns-else-i-len-2 c = simp (le-ltb _ _ c.if-i-len-2.false)

pub returns-else-i-len : goal.returns-else-i-len
returns-else-i-len c = simp (le-ltb (c.args.i + 1) c.args.len (omega arith))
