-- No line of numbers of 32 bits is longer than `longest`, and one line is that long. A buffer of that many bytes takes every line.
-- Assumes nothing.
use Prim.Native.Nat.{ℕ, ◌≤◌, ◌<◌}
use mathlib.Core.Path.{◌≡◌}
use mathlib.Core.List.{List, ◌++◌}
use native.Mathlib.Omega.{arith}
use lib.ListN.{length, drop, length-append}
use Rattle.listing.specs.Listing.{after, end_line, header_line, longest, refused_line, step_line, written}
use Rattle.listing.proofs.Digits.{at-most_ten, ten_digits}
use Rattle.listing.proofs.Placed.{line-written}

abbrev pub Fits : ℕ → Type 0
Fits n = n < 4294967296

pub header_fits : length header_line ≤ longest
unfolding header_line
header_fits = omega arith

pub step_fits : (index answer detail : ℕ) → Fits index → Fits answer → Fits detail → length (step_line index answer detail) ≤ longest
unfolding step_line
step_fits index answer detail i a d =
    simp (step_line, length-append) (omega (arith, at-most_ten index i, at-most_ten answer a, at-most_ten detail d))

pub end_fits : (end accepted taken retrains : ℕ) → Fits end → Fits accepted → Fits taken → Fits retrains
    → length (end_line end accepted taken retrains) ≤ longest
unfolding end_line
end_fits end accepted taken retrains e a t r =
    simp (end_line, length-append)
    (omega (arith, at-most_ten end e, at-most_ten accepted a, at-most_ten taken t, at-most_ten retrains r))

pub refused_fits : (number place : ℕ) → Fits number → Fits place → length (refused_line number place) ≤ longest
unfolding refused_line
refused_fits number place n p = simp (refused_line, length-append) (omega (arith, at-most_ten number n, at-most_ten place p))

pub one_so_long : length (end_line 4294967295 4294967295 4294967295 4294967295) ≡ longest
unfolding end_line
one_so_long = simp (end_line, length-append, ten_digits)

pub room_enough : (line w : List ℕ) → length line ≤ longest → longest ≤ length w
    → (written line w ≡ length line) × (after line w ≡ line ++ drop (length line) w)
room_enough line w h k = line-written line w (omega arith)
