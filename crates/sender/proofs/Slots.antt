-- Laws of the slots: each channel and category has one of its own.
-- Assumes nothing.
use Prim.Native.Nat.{ℕ, ◌<◌}
use mathlib.Core.Path.{◌≡◌}
use native.Mathlib.Omega.{arith}
use borrow.Author.Tests.{eq-eqb}
use Rattle.packets.specs.declared.Category.{Category}
use Rattle.packets.specs.Packets.{number_of, slot_of}
use Rattle.packets.proofs.Numbers.{number_below}
use Rattle.store.proofs.Categories.{same-category}
use Rattle.setup.specs.Setup.{channels, per_end}

pub slot_below : (channel : ℕ) (c : Category) → channel < channels → slot_of channel c < per_end
slot_below channel c h = omega (arith, number_below c)

module _ (channel k : ℕ) (c d : Category) (same : slot_of channel c ≡ slot_of k d) where
  pub slot_channel : channel ≡ k
  slot_channel = omega (arith, number_below c, number_below d)

  pub slot-category : c ≡ d
  slot-category = same-category c d (eq-eqb (number_of c) (number_of d) (omega (arith, number_below c, number_below d)))
