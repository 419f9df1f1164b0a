-- What a setup in range gives to each slot, and where it puts a packet that is not refused.
-- Assumes nothing.
use Prim.Native.Nat.{ℕ, ◌+◌, ◌≤◌, ◌<◌}
use mathlib.Core.Path.{◌≡◌}
use mathlib.Core.Bool.{true}
use native.Mathlib.Omega.{arith}
use native.Mathlib.Nat.{mod-eq_of_lt}
use lib.ListN.{get_or}
use borrow.Author.Tests.{lt-ltb, le-ltb}
use Rattle.credits.specs.Credits.{advertised}
use Rattle.packets.specs.declared.Packet.{Packet}
use Rattle.packets.specs.declared.Category.{Category}
use Rattle.packets.specs.Packets.{number_of, category_of, slot_of, packet_answer}
use Rattle.packets.proofs.Numbers.{number_below}
use Rattle.setup.specs.declared.Setup.{Setup}
use Rattle.setup.specs.Setup.{channels, per_end, no_units, units_at, in_range}
use Rattle.setup.proofs.Range.{few-channels, class_used, units_fit_lem, fit_used, fit_unused, units-slot, units_small}
use Rattle.amounts.specs.Amounts.{amount, wrapped, channel_for, slot_for, given}
use Rattle.amounts.proofs.Wrapped.{class-few}

pub given_is : (link : Setup) (channel : ℕ) (c : Category) → channel < channels
    → given link (slot_of channel c) ≡ amount (units_at link 1 channel (number_of c)).header (units_at link 1 channel (number_of c)).payload
unfolding given
given_is link channel c h = rw (units-slot link 1 channel (number_of c) (omega arith) h (number_below c))

module _ (link : Setup) (ok : in_range link ≡ true) where
  pub given-small : (slot : ℕ) → slot < per_end → ((given link slot).h ≤ 16) × ((given link slot).d ≤ 2047)
  unfolding given
  given-small slot h = units_small link ok 1 slot (omega arith) h

  -- a used channel has some
  pub given_some : (channel : ℕ) (c : Category) → channel < link.n
      → (1 ≤ (given link (slot_of channel c)).h) × (1 ≤ (given link (slot_of channel c)).d)
  given_some channel c h =
      let i : channel < channels = omega (arith, few-channels link ok) in
      let f = units_fit_lem link ok 1 channel (number_of c) (omega arith) i (number_below c) in
      let some = fit_used (units_at link 1 channel (number_of c)) (rw (lt-ltb channel link.n h) at f) in
      rw (given_is link channel c i) (some.0.0, some.1.0)

  -- and another none
  pub given-none : (channel : ℕ) (c : Category) → link.n ≤ channel → channel < channels → given link (slot_of channel c) ≡ amount 0 0
  given-none channel c h i =
      let f = units_fit_lem link ok 1 channel (number_of c) (omega arith) i (number_below c) in
      let none = fit_unused (units_at link 1 channel (number_of c)) (rw (le-ltb channel link.n h) at f) in
      rw (given_is link channel c i, none.0, none.1)

  -- they are advertised as they are
  pub advertised-given : (slot : ℕ) → slot < per_end
      → advertised (get_or link.units (per_end + slot) no_units).header (get_or link.units (per_end + slot) no_units).payload
      ≡ wrapped (given link slot)
  unfolding advertised wrapped given
  advertised-given slot h =
      let small = given-small slot h in
      let u = get_or link.units (per_end + slot) no_units in
      let a : u.header < 256 = omega (arith, small.0) in
      let b : u.payload < 4096 = omega (arith, small.1) in
      rw (lt-ltb _ _ a, mod-eq_of_lt a, mod-eq_of_lt b)

  -- ---- a packet that is not refused

  pub channel_used : (p : Packet) → packet_answer p ≡ 0 → channel_for link p < link.n
  channel_used p e = class_used link ok p.class (class-few p e)

  pub channel_below : (p : Packet) → packet_answer p ≡ 0 → channel_for link p < channels
  channel_below p e = omega (arith, channel_used p e, few-channels link ok)

  pub slot_small : (p : Packet) → packet_answer p ≡ 0 → slot_for link p < per_end
  slot_small p e = omega (arith, channel_below p e, number_below (category_of p))
