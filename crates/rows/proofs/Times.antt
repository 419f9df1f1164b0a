-- Laws of a change that is made n times, and of a count that falls with each change until the pair is at rest.
-- Assumes nothing.
use Prim.Native.Nat.{ℕ, zero, suc, pred, ◌+◌, ◌-◌, ◌<◌}
use mathlib.Core.Path.{◌≡◌, refl, ap}
use mathlib.Core.Logic.{◌⊎◌, ⊎_elim}
use native.Mathlib.Nat.{not-suc-le-zero, zero-add, suc-add, sub-zero}
use native.Mathlib.Omega.{arith}
use Rattle.pairs.specs.declared.Pair.{Pair}
use Rattle.rounds.specs.Rounds.{times}

module _ (f : Pair → Pair) where
  -- the change made first
  pub times_more : (n : ℕ) (p : Pair) → times (suc n) f p ≡ times n f (f p)
  unfolding times
  times_more zero p = refl
  times_more (suc n) p = ap f (times_more n p)

  pub times-add : (a b : ℕ) (p : Pair) → times (a + b) f p ≡ times a f (times b f p)
  unfolding times
  times-add zero b p = rw zero-add
  times-add (suc a) b p = rw suc-add (ap f (times-add a b p))

  -- what each change keeps holds after any number
  pub times-keeps : (P : Pair → Type 0) → ((p : Pair) → P p → P (f p)) → (n : ℕ) (p : Pair) → P p → P (times n f p)
  unfolding times
  times-keeps P k zero p h = h
  times-keeps P k (suc n) p h = k (times n f p) (times-keeps P k n p h)

  -- each change takes one off n: k changes take k off
  pub counts_down : (P : ℕ → Pair → Type 0) → ((n : ℕ) (p : Pair) → P n p → P (pred n) (f p)) → (k n : ℕ) (p : Pair) → P n p → P (n - k) (times k f p)
  unfolding times
  counts_down P g zero n p h = rw (sub-zero n) h
  counts_down P g (suc k) n p h =
      let e : n - suc k ≡ pred (n - k) = omega arith in
      rw e (g (n - k) (times k f p) (counts_down P g k n p h))

  module _ (Good Rest : Pair → Type 0) (count : Pair → ℕ) (good : (p : Pair) → Good p → Good (f p))
      (falls : (p : Pair) → Good p → Rest p ⊎ (count (f p) < count p))
      (rests : (p : Pair) → Good p → Rest p → Rest (f p)) where
    -- the pair stays good and at rest
    still : (n : ℕ) (p : Pair) → Good p → Rest p → Rest (times n f p)
    still n p g r = (times-keeps (λ q. Good q × Rest q) (λ q h. (good q h.0, rests q h.0 h.1)) n p (g, r)).1

    -- fewer than n changes lie ahead, so n changes bring rest
    pub comes_to_rest : (n : ℕ) (p : Pair) → Good p → count p < n → Rest (times n f p)
    comes_to_rest zero p g h = absurd (not-suc-le-zero h)
    comes_to_rest (suc n) p g h =
        rw (times_more n p)
        (⊎_elim (λ r. still n (f p) (good p g) (rests p g r)) (λ l. comes_to_rest n (f p) (good p g) (omega arith)) (falls p g))
