-- What holds of a choice by a test, from its two branches; what conjunctions of tests say; and where a row of answers refuses nothing.
-- Assumes nothing.
use Rattle.std.specs.Prelude.{if◌then◌else◌}
use Prim.Native.Nat.{ℕ}
use mathlib.Core.Path.{◌≡◌, refl}
use mathlib.Core.Bool.{Bool, true, false, ◌&&◌, not}
use lib.Dec.{eqb}
use borrow.Author.Tests.{eqb-true, eqb-false}
use Rattle.basics.specs.Choice.{first_of}

pub by_test : {A : Type 0} (P : A → Type 0) (b : Bool) {x y : A} → (b ≡ true → P x) → (b ≡ false → P y) → P (if b then x else y)
by_test P true f g = f refl
by_test P false f g = g refl

pub and_left : (a b : Bool) → (a && b) ≡ true → a ≡ true
and_left true b e = refl
and_left false b e = e

pub and_right : (a b : Bool) → (a && b) ≡ true → b ≡ true
and_right true b e = e
and_right false b e = cc

pub and-true : (a : Bool) → (a && true) ≡ a
and-true true = refl
and-true false = refl

pub and-false : (a : Bool) → (a && false) ≡ false
and-false true = refl
and-false false = refl

pub and_assoc : (a b c : Bool) → (a && b && c) ≡ (a && (b && c))
and_assoc true b c = refl
and_assoc false b c = refl

pub not-not : (a : Bool) → not (not a) ≡ a
not-not true = refl
not-not false = refl

-- where the first refusal of two answers is none, neither refuses
pub first_zero : (a b : ℕ) → first_of a b ≡ 0 → (a ≡ 0) × (b ≡ 0)
first_zero a b e = go (eqb a 0) refl e
  where
    go : (t : Bool) → eqb a 0 ≡ t → (if t then b else a) ≡ 0 → (a ≡ 0) × (b ≡ 0)
    go true t e = (eqb-true a 0 t, e)
    go false t e = absurd (eqb-false a 0 t e)
