-- A category's number is one of three.
-- Assumes nothing.
use Prim.Native.Nat.{◌<◌}
use native.Mathlib.Omega.{arith}
use Rattle.packets.specs.declared.Category.{Category}
use Rattle.packets.specs.declared.Category.TheVariants.{Posted, NonPosted, Completion}
use Rattle.packets.specs.Packets.{number_of}

pub number_below : (c : Category) → number_of c < 3
number_below Posted = omega arith
number_below NonPosted = omega arith
number_below Completion = omega arith
