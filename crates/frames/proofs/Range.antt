-- A law of the range rule: what is answered with 0 is in range.
-- Assumes nothing.
use Rattle.std.specs.Prelude.{if◌then◌else◌}
use Prim.Native.Nat.{ℕ}
use mathlib.Core.Path.{◌≡◌, refl}
use mathlib.Core.Bool.{Bool, true, false}
use native.Mathlib.Omega.{arith}
use Rattle.frames.specs.declared.Frame.{Frame}
use Rattle.frames.specs.Frames.{in_range, frame_answer}

-- answered with 0: in range
pub answered : (n : ℕ) (f : Frame) → frame_answer n f ≡ 0 → in_range n f ≡ true
answered n f e = go (in_range n f) e
  where
    go : (b : Bool) → ◌≡◌ {A = ℕ} (if b then 0 else 27) 0 → b ≡ true
    go true e = refl
    go false e = absurd (omega arith)
