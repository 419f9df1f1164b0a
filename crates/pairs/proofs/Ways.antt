-- The ways through Send and through what becomes of a line's oldest frame, over plain values: each way's answer is the definition's.
-- Assumes nothing.
use Rattle.std.specs.Prelude.{if◌then◌else◌, Some, None, Option}
use Prim.Native.Nat.{ℕ}
use mathlib.Core.Path.{◌≡◌, sym, ◌∙◌}
use mathlib.Core.Bool.{true, false}
use lib.ListN.{set}
use Rattle.frames.specs.declared.Frame.{Frame}
use Rattle.line.specs.Line.{is_full, put, front_of, rest_of}
use Rattle.ends.specs.declared.End.{End}
use Rattle.ends.specs.Ends.{Stepped}
use Rattle.ends.specs.Sends.{Sent}
use Rattle.ends.specs.Sends.{send_of}
use Rattle.pairs.specs.declared.Pair.{Pair}
use Rattle.pairs.specs.Pairs.{pair, done, end_at, line_at, other, send_at, reached, reach_at, lose_at}

-- Send, at what the end had for the line
module _ (p : Pair) (i : ℕ) (s : Sent) (is : s ≡ send_of (end_at p i)) where
  pub nothing_applies : s.frame ≡ None → done p 18 0 ≡ send_at p i
  unfolding send_at
  nothing_applies e = simp (send_at, ← is, e)

  module _ (f : Frame) (frame : s.frame ≡ Some f) where
    pub line_full : is_full (line_at p (other i)) ≡ true → done p 17 0 ≡ send_at p i
    unfolding send_at
    line_full e = simp (send_at, ← is, frame, e)

    pub goes : is_full (line_at p (other i)) ≡ false
        → done (pair (set p.ends i s.end) (set p.lines (other i) (put (line_at p (other i)) f))) 0 s.detail ≡ send_at p i
    unfolding send_at
    goes e = simp (send_at, ← is, frame, e)

-- the oldest frame on the line to end i
module _ (p : Pair) (i : ℕ) (x : Option Frame) (front : x ≡ front_of (line_at p i)) where
  pub none_reaches : (step : End → Frame → Stepped) → x ≡ None → done p 19 0 ≡ reach_at step p i
  unfolding reach_at
  none_reaches step e = simp (reach_at, ← front, e)

  pub one_reaches : (step : End → Frame → Stepped) (f : Frame) → x ≡ Some f → reached p i (step (end_at p i) f) ≡ reach_at step p i
  unfolding reach_at
  one_reaches step f e = simp (reach_at, ← front, e)

  pub none_lost : x ≡ None → done p 19 0 ≡ lose_at p i
  unfolding lose_at
  none_lost e = simp (lose_at, ← front, e)

  pub one_lost : (f : Frame) → x ≡ Some f → done (pair p.ends (set p.lines i (rest_of (line_at p i)))) 0 0 ≡ lose_at p i
  unfolding lose_at
  one_lost f e = simp (lose_at, ← front, e)
