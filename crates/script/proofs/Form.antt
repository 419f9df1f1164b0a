-- A step in form fits its bytes; the widths of records and of steps as numbers.
-- Assumes nothing.
use Prim.Native.Nat.{ℕ, ◌≤◌}
use mathlib.Core.Path.{◌≡◌, refl}
use mathlib.Core.Bool.{Bool, true, false, ◌&&◌, ◌||◌}
use native.Mathlib.Omega.{arith}
use lib.Dec.{leb}
use lib.ListN.{length}
use borrow.Author.Tests.{leb-true}
use Rattle.basics.proofs.Branches.{and_left, and_right}
use Rattle.setup.specs.Setup.{within}
use Rattle.script.specs.Script.{trailer_bytes}
use Rattle.script.specs.Step.{FitsBytes, fields_fit, form_by, in_form, is_submit, is_take, numbers_of, record_bytes, room}
use Rattle.script.specs.declared.Step.{Step}

pub twelve_bytes : (t : Step) → length (record_bytes t) ≡ 12
unfolding record_bytes
twelve_bytes t = refl

pub six_numbers : (t : Step) → length (numbers_of t) ≡ 6
unfolding numbers_of
six_numbers t = refl

pub trailer_bytes_lem : (count : ℕ) → length (trailer_bytes count) ≡ 12
unfolding trailer_bytes
trailer_bytes_lem count = refl

-- a field is at most what its bytes hold
at_most : (x : ℕ) (used : Bool) (most : ℕ) → leb x (room used most) ≡ true → x ≤ most
at_most x true most h = leb-true x most h
at_most x false most h = let z : x ≤ 0 = leb-true x 0 h in omega arith

module _ (t : Step) (ok : in_form t ≡ true) where
  step_fits : t.step ≤ 8
  unfolding form_by
  step_fits =
      leb-true t.step 8 (and_right (leb 1 t.step) (leb t.step 8) (and_left (within 1 8 t.step) (leb t.end 1 && fields_fit 255 65535 t) ok))

  rest : (leb t.end 1 && fields_fit 255 65535 t) ≡ true
  unfolding form_by
  rest = and_right (within 1 8 t.step) (leb t.end 1 && fields_fit 255 65535 t) ok

  abbrev one : ℕ
  one = room (is_submit t.step || is_take t.step) 255

  abbrev packet : Bool
  packet = leb t.length (room (is_submit t.step) 65535) && leb t.ident (room (is_submit t.step) 4294967295)

  fields : (leb t.class one && (leb t.kind one && packet)) ≡ true
  unfolding fields_fit
  fields = and_right (leb t.end 1) (fields_fit 255 65535 t) rest

  later : (leb t.kind one && packet) ≡ true
  later = and_right (leb t.class one) (leb t.kind one && packet) fields

  pub form_fits : FitsBytes t
  form_fits =
      let s = step_fits in
      let e = leb-true t.end 1 (and_left (leb t.end 1) (fields_fit 255 65535 t) rest) in
      let c = at_most t.class (is_submit t.step || is_take t.step) 255 (and_left (leb t.class one) (leb t.kind one && packet) fields) in
      let k = at_most t.kind (is_submit t.step || is_take t.step) 255 (and_left (leb t.kind one) packet later) in
      let l = at_most t.length (is_submit t.step) 65535
      (and_left (leb t.length (room (is_submit t.step) 65535)) (leb t.ident (room (is_submit t.step) 4294967295))
      (and_right (leb t.kind one) packet later)) in
      record { step = omega arith; end = omega arith; class = omega arith; kind = omega arith; length = omega arith }
