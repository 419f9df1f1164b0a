-- The words of a line after one frame more, and without its oldest frame.
-- Assumes that it has all its words.
use Prim.Native.Nat.{ℕ, ◌+◌, ◌-◌, ◌*◌, ◌≤◌, ◌<◌}
use mathlib.Core.Path.{◌≡◌, sym, ap, ◌∙◌}
use mathlib.Core.List.{List}
use borrow.Author.Tests.{lt-ltb, le-leb}
use lib.ListN.{length, get_or, set, drop}
use lib.Seq.{paste}
use Rattle.line.specs.Line.{put, rest_of}
use Rattle.words.specs.Words.{frame_in}
use Rattle.words.specs.Memory.{line_places, line_words, line_in}
use Rattle.words.proofs.Lines.{len_is, put-frame, leave, set_keeps, leave-keeps}

module _ (l : List ℕ) (long : length l ≡ line_words) (n : ℕ) (is : n ≡ get_or l (2 * line_places) 0) where
  size : (line_in l).len ≡ n
  size = len_is l long ∙ sym is

  -- one more
  pub put_is : (a b : ℕ) → n < line_places
      → (line_in (set (set (set l (2 * n) a) (2 * n + 1) b) (2 * line_places) (n + 1)) ≡ put (line_in l) (frame_in a b))
      × (length (set (set (set l (2 * n) a) (2 * n + 1) b) (2 * line_places) (n + 1)) ≡ line_words)
  unfolding put
  put_is a b room =
      let x = set l (2 * n) a in
      let y = set x (2 * n + 1) b in (
        put-frame l long n a b room ∙ rw (size, lt-ltb n line_places room),
        set_keeps y (set_keeps x (set_keeps l long (2 * n) a) (2 * n + 1) b) (2 * line_places) (n + 1),
      )

  -- without its oldest: in the words m the later ones have moved down
  pub rest-is : 1 ≤ n → n ≤ line_places → (m : List ℕ) → m ≡ paste l 0 (drop 2 l) (2 * n - 2)
      → (line_in (set m (2 * line_places) (n - 1)) ≡ rest_of (line_in l)) × (length (set m (2 * line_places) (n - 1)) ≡ line_words)
  unfolding rest_of
  rest-is some few m down = (
    ap (λ r. line_in (set r (2 * line_places) (n - 1))) down ∙ leave l long n some few ∙ rw (size, le-leb 1 n some, le-leb n line_places few),
    set_keeps m (rw down (leave-keeps l long n some few)) (2 * line_places) (n - 1),
  )
