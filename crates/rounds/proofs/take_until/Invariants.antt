-- `rounds::take_until` meets its contract: the invariant: what is left to take makes the whole.
-- Assumes nothing.
use Prim.Native.Nat.{◌-◌}
use mathlib.Core.Path.{◌≡◌}
use Rattle.rounds.specs.Rounds.{take_until, most_takes}
use Rattle.rounds.proofs.take_until.Given as goal

abbrev pub invariant-loop : goal.invariant-loop
invariant-loop l = take_until (49 - l.counter) l.r l.end l.channel l.category ≡ take_until most_takes l.fn.p l.end l.channel l.category
