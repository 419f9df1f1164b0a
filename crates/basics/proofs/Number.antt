-- Numbers little-endian: a number is that of its bytes, and bytes are those of their number.
-- Assumes nothing.
use Prim.Native.Nat.{ℕ, ◌/◌, ◌%◌, ◌<◌}
use mathlib.Core.Path.{◌≡◌}
use native.Mathlib.Omega.{arith}
use Rattle.basics.specs.Number.{whole_two, whole_four}

pub whole_two_lem : (x : ℕ) → whole_two (x % 256) (x / 256) ≡ x
whole_two_lem x = omega arith

pub whole_four_lem : (x : ℕ) → whole_four (x % 256) (x / 256 % 256) (x / 65536 % 256) (x / 16777216) ≡ x
whole_four_lem x = omega arith

module _ (a b : ℕ) (ha : a < 256) where
  pub low-two : whole_two a b % 256 ≡ a
  low-two = omega arith

  pub high-two : whole_two a b / 256 ≡ b
  high-two = omega arith

module _ (a b c d : ℕ) (ha : a < 256) (hb : b < 256) (hc : c < 256) where
  pub byte_0 : whole_four a b c d % 256 ≡ a
  byte_0 = omega arith

  pub byte_1 : whole_four a b c d / 256 % 256 ≡ b
  byte_1 = omega arith

  pub byte_2 : whole_four a b c d / 65536 % 256 ≡ c
  byte_2 = omega arith

  pub byte_3 : whole_four a b c d / 16777216 ≡ d
  byte_3 = omega arith
