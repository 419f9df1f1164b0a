-- Laws of a row of steps: Takes until one is refused, and a change made so many times.
-- Assumes nothing.
use Prim.Native.Nat.{ℕ, zero, suc, ◌+◌, ◌-◌, ◌≤◌, ◌<◌}
use mathlib.Core.Path.{◌≡◌, refl, ◌∙◌}
use mathlib.Core.Bool.{false}
use native.Mathlib.Nat.{not-suc-le-zero}
use native.Mathlib.Omega.{arith}
use lib.Dec.{eqb}
use borrow.Author.Tests.{eq-eqb}
use Rattle.std.specs.List.{fold, range_with_len}
use Rattle.pairs.specs.declared.Pair.{Pair}
use Rattle.pairs.specs.Pairs.{Done}
use Rattle.rounds.specs.Rounds.{times, take_of, take_until}

-- ---- Take until refused

module _ (end channel category : ℕ) where
  pub no_takes : (left : ℕ) (p : Pair) → left ≤ 0 → take_until left p end channel category ≡ p
  unfolding take_until
  no_takes zero p h = refl
  no_takes (suc left) p h = absurd (not-suc-le-zero h)

  module _ (p : Pair) (d : Done) (is : d ≡ take_of p end channel category) where
    pub refused : (left : ℕ) → 0 < left → eqb d.answer 0 ≡ false → take_until left p end channel category ≡ p
    unfolding take_until
    refused zero h e = absurd (not-suc-le-zero h)
    refused (suc left) h e = simp (← is, e)

    pub taken : (left : ℕ) → 0 < left → d.answer ≡ 0 → take_until left p end channel category ≡ take_until (left - 1) d.pair end channel category
    unfolding take_until
    taken zero h e = absurd (not-suc-le-zero h)
    taken (suc left) h e =
        let less : suc left - 1 ≡ left = omega arith in
        simp (← is, eq-eqb _ _ e, less)

-- ---- a change made so many times, as a fold over so many numbers

pub fold_times : (change : Pair → Pair) (p : Pair) (a n : ℕ) → fold (λ q x. change q) p (range_with_len a n) ≡ times n change p
unfolding times
fold_times change p a zero = refl
fold_times change p a (suc n) = fold_times change (change p) (a + 1) n ∙ front n p
  where
    front : (n : ℕ) (p : Pair) → times n change (change p) ≡ change (times n change p)
    front zero p = refl
    front (suc n) p = rw (front n p)
