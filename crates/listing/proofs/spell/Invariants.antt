-- `listing::spell` meets its contract: the digits not yet written come before those that are.
-- Assumes nothing.
use Prim.Native.Nat.{◌+◌, ◌<◌}
use mathlib.Core.Path.{◌≡◌}
use mathlib.Core.List.{◌++◌}
use lib.ListN.{length, drop}
use Rattle.listing.specs.Listing.{digits}
use Rattle.listing.proofs.spell.Given as goal

abbrev pub invariant-loop-rest : goal.invariant-loop-rest
invariant-loop-rest l =
    (l.i + 1 ≡ length (digits l.rest)) × (l.i < length l.w) × (length l.w ≡ length l.initial.w) × (digits l.n ≡ digits l.rest ++ drop (l.i + 1) l.w)

abbrev pub decreases-loop-rest : goal.decreases-loop-rest
decreases-loop-rest l = l.rest
