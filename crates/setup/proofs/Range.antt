-- Where the units of each end, channel and category stand, and what a setup in range gives to each of them and to each class.
-- Assumes nothing.
use Prim.Native.Nat.{ℕ, ◌+◌, ◌*◌, ◌/◌, ◌%◌, ◌≤◌, ◌<◌}
use mathlib.Core.Path.{◌≡◌}
use mathlib.Core.Bool.{Bool, true, false, ◌&&◌}
use native.Mathlib.Omega.{arith}
use lib.Dec.{leb, ltb, eqb}
use lib.ListN.{get_or}
use borrow.Author.Tests.{leb-true, ltb-true, eqb-true, lt-ltb}
use Rattle.basics.specs.Each.{each}
use Rattle.basics.proofs.Branches.{and_left, and_right}
use Rattle.basics.proofs.Each.{each_at}
use Rattle.setup.specs.Setup.{channels, per_end, no_units, channel_of, units_at, units_fit, within, classes_fit, categories_fit, channels_fit, in_range}
use Rattle.setup.specs.declared.Setup.{Setup}
use Rattle.setup.specs.declared.Units.{Units}

-- ---- units that fit

within_bounds_lem : (low high x : ℕ) → within low high x ≡ true → (low ≤ x) × (x ≤ high)
within_bounds_lem low high x e = (
  leb-true low x (and_left (leb low x) (leb x high) e),
  leb-true x high (and_right (leb low x) (leb x high) e),
)

module _ (u : Units) where
  -- a used channel has some
  pub fit_used : units_fit true u ≡ true → ((1 ≤ u.header) × (u.header ≤ 16)) × ((1 ≤ u.payload) × (u.payload ≤ 2047))
  unfolding units_fit
  fit_used e = (
    within_bounds_lem 1 16 u.header (and_left (within 1 16 u.header) (within 1 2047 u.payload) e),
    within_bounds_lem 1 2047 u.payload (and_right (within 1 16 u.header) (within 1 2047 u.payload) e),
  )

  -- and another none
  pub fit_unused : units_fit false u ≡ true → (u.header ≡ 0) × (u.payload ≡ 0)
  unfolding units_fit
  fit_unused e = (
    eqb-true u.header 0 (and_left (eqb u.header 0) (eqb u.payload 0) e),
    eqb-true u.payload 0 (and_right (eqb u.header 0) (eqb u.payload 0) e),
  )

  -- used or not, they are few
  pub fit_small : (used : Bool) → units_fit used u ≡ true → (u.header ≤ 16) × (u.payload ≤ 2047)
  fit_small true e = ((fit_used e).0.1, (fit_used e).1.1)
  fit_small false e = (omega (arith, (fit_unused e).0), omega (arith, (fit_unused e).1))

-- ---- the units of an end, a channel and a category by their place

pub units-slot : (s : Setup) (end channel category : ℕ) → end < 2 → channel < channels → category < 3
    → units_at s end channel category ≡ get_or s.units (per_end * end + (3 * channel + category)) no_units
unfolding units_at
units-slot s end channel category h i j =
    let e : per_end * end + 3 * channel + category ≡ per_end * end + (3 * channel + category) = omega arith in
    simp (lt-ltb end 2 h, lt-ltb channel channels i, lt-ltb category 3 j, e)

-- ---- a setup in range

module _ (s : Setup) (ok : in_range s ≡ true) where
  n_within : within 1 channels s.n ≡ true
  unfolding in_range
  n_within = and_left (within 1 channels s.n) (classes_fit s && each 2 (λ end. channels_fit s end)) ok

  others : (classes_fit s && each 2 (λ end. channels_fit s end)) ≡ true
  unfolding in_range
  others = and_right (within 1 channels s.n) (classes_fit s && each 2 (λ end. channels_fit s end)) ok

  -- at least one channel, and no more than there can be
  pub one_channel : 1 ≤ s.n
  one_channel = leb-true 1 s.n (and_left (leb 1 s.n) (leb s.n channels) n_within)

  pub few-channels : s.n ≤ channels
  few-channels = leb-true s.n channels (and_right (leb 1 s.n) (leb s.n channels) n_within)

  -- each class is on a used channel
  pub class_used : (class : ℕ) → class < 8 → channel_of s class < s.n
  unfolding classes_fit
  class_used class h =
      ltb-true (channel_of s class) s.n
      (each_at 8 (λ k. ltb (channel_of s k) s.n) class (and_left (classes_fit s) (each 2 (λ end. channels_fit s end)) others) h)

  -- the units of each end, channel and category fit
  pub units_fit_lem : (end channel category : ℕ) → end < 2 → channel < channels → category < 3
      → units_fit (ltb channel s.n) (units_at s end channel category) ≡ true
  unfolding channels_fit categories_fit
  units_fit_lem end channel category h i j =
      each_at 3 (λ k. units_fit (ltb channel s.n) (units_at s end channel k)) category
      (each_at channels (λ c. categories_fit s end c) channel
      (each_at 2 (λ e. channels_fit s e) end (and_right (classes_fit s) (each 2 (λ e. channels_fit s e)) others) h) i) j

  -- and so each place has few
  pub units_small : (end slot : ℕ) → end < 2 → slot < per_end
      → ((get_or s.units (per_end * end + slot) no_units).header ≤ 16) × ((get_or s.units (per_end * end + slot) no_units).payload ≤ 2047)
  units_small end slot h k =
      let e : 3 * (slot / 3) + slot % 3 ≡ slot = omega arith in
      let i : slot / 3 < channels = omega arith in
      let j : slot % 3 < 3 = omega arith in
      rw (units-slot s end (slot / 3) (slot % 3) h i j, e) at (fit_small _ _ (units_fit_lem end (slot / 3) (slot % 3) h i j))
