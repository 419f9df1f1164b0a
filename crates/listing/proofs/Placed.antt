-- Laws of bytes that are written over others: digits from the back, and one piece behind another.
-- Assumes nothing.
use Prim.Native.Nat.{ℕ, suc, ◌+◌, ◌/◌, ◌%◌, ◌≤◌, ◌<◌}
use mathlib.Core.Path.{◌≡◌, sym, ap, ◌∙◌}
use mathlib.Core.List.{List, [], ◌∷◌, ◌++◌, append_assoc, append-nil}
use native.Mathlib.Numerals.{add-one}
use native.Mathlib.Omega.{arith}
use lib.ListN.{length, take, drop, set, length-append, drop_of_length-le}
use borrow.Author.Tests.{le-leb, lt-leb}
use lib.Seq.{take_at, drop_at, drop-drop, set_split, length-take-le}
use Rattle.basics.proofs.Parts.{filled, filled_more}
use Rattle.listing.specs.Listing.{after, digits, placed, written}
use Rattle.listing.proofs.Digits.{digits_one, digits_more, length_one}

-- ---- the digits of a number, the last one first

-- none is written yet
pub spelt_start : (n i : ℕ) (w : List ℕ) → length w ≤ i → digits n ≡ digits n ++ drop i w
spelt_start n i w h = rw (drop_of_length-le w {i = i} h, append-nil)

-- the digits of rest are still to be written, and the others stand behind place i
module _ (n rest i : ℕ) (w : List ℕ) (at : i + 1 ≡ length (digits rest)) (done : digits n ≡ digits rest ++ drop (i + 1) w) (room : i < length w) where
  stored-behind : (d : ℕ) → drop i (set w i d) ≡ d ∷ drop (i + 1) w
  stored-behind d =
      let k : i ≤ length w = omega arith in
      rw (set_split w i d room, drop_at (take i w) (d ∷ drop (suc i) w) i (length-take-le i w k), add-one)

  pub spelt_more : 10 ≤ rest → digits n ≡ digits (rest / 10) ++ drop i (set w i (48 + rest % 10))
  spelt_more h =
      rw (stored-behind (48 + rest % 10), done, digits_more rest h)
      (append_assoc (digits (rest / 10)) ((48 + rest % 10) ∷ []) (drop (i + 1) w))

  pub spelt_all : rest < 10 → set w i (48 + rest) ≡ digits n
  spelt_all h =
      let z : i ≡ 0 = omega (arith, length_one rest h) in
      let e = rw z at (stored-behind (48 + rest)) in
      rw (done, digits_one rest h, z) e

-- ---- pieces

-- a piece closes what stands before it
placed-filled : (at : ℕ) (x w : List ℕ) → placed at x w ≡ filled (at + length x) (take at w ++ x) w
unfolding placed
placed-filled at x w = sym (append_assoc (take at w) x (drop (at + length x) w))

-- the bytes from a place on are lent, and come back as x
pub placed_lent : (at : ℕ) (x w : List ℕ) → take at w ++ (x ++ drop (length x) (drop at w)) ≡ placed at x w
unfolding placed
placed_lent at x w = rw drop-drop

module _ (at : ℕ) (x w : List ℕ) (room : at + length x ≤ length w) where
  length_head : length (take at w ++ x) ≡ at + length x
  length_head =
      let k : at ≤ length w = omega arith in
      length-append (take at w) x ∙ rw (length-take-le at w k)

  -- what stands up to the end of the piece
  pub take-placed : take (at + length x) (placed at x w) ≡ take at w ++ x
  take-placed = rw (placed-filled at x w) (take_at (take at w ++ x) (drop (at + length x) w) (at + length x) length_head)

  -- a piece behind another
  pub placed-more : (y : List ℕ) → placed (at + length x) y (placed at x w) ≡ placed at (x ++ y) w
  placed-more y =
      let size : at + length x + length y ≡ at + length (x ++ y) = rw length-append (omega arith) in
      rw (← placed_lent (at + length x) y (placed at x w), placed-filled at x w, filled_more (at + length x) (take at w ++ x) w length_head y (length y), size, append_assoc (take at w) x y, placed-filled at (x ++ y) w)

-- ---- a whole line over the buffer lent

module _ (line w : List ℕ) where
  pub line_kept : length w < length line → (0 ≡ written line w) × (w ≡ after line w)
  unfolding written after
  line_kept h = (simp (written, lt-leb _ _ h), simp (after, lt-leb _ _ h))

  pub line-written : length line ≤ length w → (written line w ≡ length line) × (after line w ≡ line ++ drop (length line) w)
  unfolding written after
  line-written h = (simp (written, le-leb _ _ h), simp (after, le-leb _ _ h))

  -- the same, as a piece from place 0 on
  pub line-placed : length line ≤ length w → (0 + length line ≡ written line w) × (placed 0 line w ≡ after line w)
  unfolding placed
  line-placed h =
      let e : 0 + length line ≡ length line = omega arith in
      (e ∙ sym (line-written h).0, rw e (sym (line-written h).1))

-- A line grows by a piece x, or by a field: its name and its number. The line stands in l up to a place, and in m up to r.
module _ (at r : ℕ) (l m line : List ℕ) (done : take at l ≡ line) where
  pub grown : (x : List ℕ) → (r ≡ at + length x) × (m ≡ placed at x l) → r ≤ length l → take r m ≡ line ++ x
  grown x e room = rw (e.0, e.1) (take-placed at x l (omega (arith, e.0)) ∙ ap (λ b. b ++ x) done)

  pub field_grown : (name : List ℕ) (n : ℕ) → (r ≡ at + length (name ++ digits n)) × (m ≡ placed at (name ++ digits n) l) → r ≤ length l
      → take r m ≡ line ++ name ++ digits n
  field_grown name n e room = grown (name ++ digits n) e room ∙ sym (append_assoc line name (digits n))
