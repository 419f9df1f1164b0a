-- What is on a line after each change, and that its array keeps its length.
-- Its array has 16 places, as every value of the code has. Assumes nothing else.
use Rattle.std.specs.Prelude.{if◌then◌else◌, Some, None, Option}
use Prim.Native.Nat.{ℕ, ◌+◌, ◌-◌, ◌<◌, ◌≤◌}
use mathlib.Core.Path.{◌≡◌, refl, sym, ap, ◌∙◌}
use mathlib.Core.Bool.{Bool, true, false, ◌&&◌}
use mathlib.Core.List.{List, [], ◌∷◌, ◌++◌}
use native.Mathlib.Omega.{arith}
use borrow.Author.Tests.{lt-ltb, le-leb, leb-true, leb-false, eqb-true, eqb-false, ne_eqb}
use lib.Dec.{leb, ltb, eqb}
use lib.ListN.{length, drop, get_or, length-set, length-take}
use lib.Seq.{length-take-le}
use Rattle.basics.proofs.Shift.{take-pushed, take-moved, length_moved}
use Rattle.basics.proofs.Branches.{by_test, and_left, and_right}
use Rattle.basics.proofs.Walk.{kept, rest_cons}
use Rattle.frames.specs.declared.Frame.{Frame}
use Rattle.line.specs.declared.Slot.{Slot}
use Rattle.line.specs.declared.Line.{Line}
use Rattle.line.specs.Line.{slot, blank, empty, on_line, is_full, put, front_of, rest_of}

pub on-empty : on_line empty ≡ []
on-empty = refl

pub length-empty : length empty.slots ≡ 16
length-empty = refl

-- what stands in the first slot
abbrev oldest : Line → Frame
oldest l = (get_or l.slots 0 blank).frame

abbrev frame_in : Option Frame → Frame
frame_in (Some f) = f
frame_in None = blank.frame

apart : {A : Type 0} {f : Frame} → None ≡ Some f → A
apart e = let z : ◌≡◌ {A = ℕ} 0 1 = cc in absurd (omega arith)

module _ (l : Line) (long : length l.slots ≡ 16) where
  pub length-on : l.len ≤ 16 → length (on_line l) ≡ l.len
  length-on h = length-take-le l.len l.slots (omega arith)

  pub not_full : is_full l ≡ false → l.len < 16
  not_full e = leb-false 16 l.len e

  -- ---- one more

  pub on-put : (f : Frame) → l.len < 16 → on_line (put l f) ≡ on_line l ++ (slot f ∷ [])
  unfolding put
  on-put f h = simp (put, lt-ltb l.len 16 h) (take-pushed l.slots l.len (slot f) (omega arith))

  pub len_put : (f : Frame) → l.len < 16 → (put l f).len ≡ l.len + 1
  unfolding put
  len_put f h = simp (put, lt-ltb l.len 16 h)

  pub length-put : (f : Frame) → length (put l f).slots ≡ length l.slots
  unfolding put
  length-put f = by_test (λ (r : Line). length r.slots ≡ length l.slots) (ltb l.len 16) (λ t. length-set l.slots l.len (slot f)) (λ t. refl)

  -- ---- without its oldest

  pub len_rest : 0 < l.len → l.len ≤ 16 → (rest_of l).len ≡ l.len - 1
  unfolding rest_of
  len_rest h room = simp (rest_of, le-leb 1 l.len h, le-leb l.len 16 room)

  pub on-rest : 0 < l.len → l.len ≤ 16 → on_line (rest_of l) ≡ drop 1 (on_line l)
  unfolding rest_of
  on-rest h room = simp (rest_of, le-leb 1 l.len h, le-leb l.len 16 room) (take-moved l.slots 0 1 l.len (omega arith) h (omega arith))

  pub length_rest : length (rest_of l).slots ≡ length l.slots
  unfolding rest_of
  length_rest =
      by_test (λ (r : Line). length r.slots ≡ length l.slots) (leb 1 l.len && leb l.len 16)
      (λ t. length_moved l.slots 0 1 l.len (omega arith) (leb-true 1 l.len (and_left (leb 1 l.len) (leb l.len 16) t)) (omega (arith, leb-true l.len 16 (and_right (leb 1 l.len) (leb l.len 16) t))))
      (λ t. refl)

  -- ---- its oldest

  -- nothing is at the front where nothing is on the line
  pub front-nothing : front_of l ≡ None → on_line l ≡ []
  front-nothing e = go (eqb l.len 0) refl e
    where
      go : (t : Bool) → eqb l.len 0 ≡ t → (if t then None else Some (oldest l)) ≡ None → on_line l ≡ []
      go true t e = rw (eqb-true l.len 0 t)
      go false t e = apart (sym e)

  -- what is at the front comes first, then the rest
  pub front-found : (f : Frame) → l.len ≤ 16 → front_of l ≡ Some f → on_line l ≡ slot f ∷ on_line (rest_of l)
  front-found f room e = go (eqb l.len 0) refl e on-rest
    where
      go : (t : Bool) → eqb l.len 0 ≡ t → (if t then None else Some (oldest l)) ≡ Some f
          → (0 < l.len → l.len ≤ 16 → on_line (rest_of l) ≡ drop 1 (on_line l)) → on_line l ≡ slot f ∷ on_line (rest_of l)
      go true t e rest = apart e
      go false t e rest =
          let some : 0 < l.len = omega (arith, eqb-false l.len 0 t) in
          let here : 0 < length (on_line l) = rw length-take (omega arith) in
          let same : oldest l ≡ f = ap frame_in e in
          rest_cons l.slots l.len 0 blank here ∙ rw (← same, rest some room)

  -- and a line with a frame on it has one at its front
  pub front_first : (f : Frame) (s : List Slot) → on_line l ≡ slot f ∷ s → front_of l ≡ Some f
  front_first f s e =
      let many : 0 < length (on_line l) = omega (arith, ap length e) in
      let some : 0 < l.len = omega (arith, rw length-take at many) in
      let first : oldest l ≡ f = ap (λ x. x.frame) (sym (kept l.slots l.len 0 blank many)) ∙ ap (λ x. (get_or x 0 blank).frame) e in
      rw (ne_eqb l.len 0 (omega arith), first)
