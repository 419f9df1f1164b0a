-- What the writer accepts reads back as the same setup and steps, and what the reader accepts is written as the same bytes.
-- Assumes nothing.
use Prim.Native.Nat.{ℕ, ◌-◌, ◌*◌, ◌≤◌}
use mathlib.Core.Path.{◌≡◌, refl, sym, ap, ◌∙◌}
use mathlib.Core.Bool.{true, false, ◌&&◌, not}
use mathlib.Core.List.{List, ◌++◌, map}
use native.Mathlib.Omega.{arith}
use lib.Dec.{eqb}
use lib.ListN.{length, get_or, take, drop, length-append, length-drop}
use lib.Seq.{length-take-le}
use borrow.Author.Tests.{eq-eqb, eqb-true, le-leb, not-false}
use Rattle.basics.specs.Each.{first_not}
use Rattle.basics.specs.Parts.{cut, joined, part}
use Rattle.basics.proofs.Branches.{and_left, and_right}
use Rattle.basics.proofs.Each.{first_map, first_most, first_none, first_same, first_weaker}
use Rattle.basics.proofs.Number.{byte_0, byte_1, byte_2, byte_3, high-two, low-two, whole_four_lem, whole_two_lem}
use Rattle.basics.proofs.Parts.{Bytes, bytes_drop, bytes_take, cut-back, cut-row, joined-cut, last-part, length_cut, length-read, length-row, listed, listed_all, map_back, middle_part, three_parts}
use Rattle.setup.specs.Setup.{in_range, slots}
use Rattle.setup.specs.Bytes.{setup_at, setup_bytes, setup_length}
use Rattle.setup.specs.declared.Setup.{Setup}
use Rattle.setup.proofs.RoundTrip.{bytes_same, setup_back}
use Rattle.setup.proofs.Rows.{length_setup}
use Rattle.script.specs.Script.{agrees, count_of, most_steps, read_script, records_of, script_bytes, script_length, setup_of, steps_in, steps_of, trailer_at, trailer_bytes, trailer_of, write_script}
use Rattle.script.specs.Step.{in_form, numbers_of, record_bytes, record_in_form, step_at, step_of}
use Rattle.script.specs.declared.Step.{Step}
use Rattle.script.specs.declared.Trailer.{Trailer}
use Rattle.script.proofs.Form.{six_numbers, trailer_bytes_lem, twelve_bytes}
use Rattle.script.proofs.Reader.{Accepted, accepted, agreed, agreed_offset, by_0}
use Rattle.script.proofs.Writer.{done, length-steps, written}

-- ---- a record

-- what is written reads back
pub step_back : (t : Step) → step_at (record_bytes t) ≡ t
unfolding step_at record_bytes
step_back t = simp (whole_two_lem, whole_four_lem)

-- a record that is written is in form as its step is
pub form_back : (t : Step) → record_in_form (record_bytes t) ≡ in_form t
unfolding record_in_form record_bytes
form_back t = ap in_form (step_back t)

-- a record in form is written as it was
pub record_same : (r : List ℕ) → length r ≡ 12 → Bytes r → record_in_form r ≡ true → record_bytes (step_at r) ≡ r
unfolding step_at record_bytes record_in_form listed
record_same r h b f =
    let six = eqb-true (get_or r 6 0) 0 (and_left (eqb (get_or r 6 0) 0) (eqb (get_or r 7 0) 0 && in_form (step_at r)) f) in
    let seven = eqb-true (get_or r 7 0) 0 (and_left (eqb (get_or r 7 0) 0) (in_form (step_at r))
    (and_right (eqb (get_or r 6 0) 0) (eqb (get_or r 7 0) 0 && in_form (step_at r)) f)) in
    simp (
      low-two (get_or r 4 0) (get_or r 5 0) (b 4),
      high-two (get_or r 4 0) (get_or r 5 0) (b 4),
      byte_0 (get_or r 8 0) (get_or r 9 0) (get_or r 10 0) (get_or r 11 0) (b 8) (b 9) (b 10),
      byte_1 (get_or r 8 0) (get_or r 9 0) (get_or r 10 0) (get_or r 11 0) (b 8) (b 9) (b 10),
      byte_2 (get_or r 8 0) (get_or r 9 0) (get_or r 10 0) (get_or r 11 0) (b 8) (b 9) (b 10),
      byte_3 (get_or r 8 0) (get_or r 9 0) (get_or r 10 0) (get_or r 11 0) (b 8) (b 9) (b 10),
    )
    (simp (six, seven) at (listed_all 0 12 r h))

-- six numbers are those of their step
pub numbers-same : (l : List ℕ) → length l ≡ 6 → numbers_of (step_of l) ≡ l
unfolding numbers_of step_of listed
numbers-same l h = listed_all 0 6 l h

pub numbers-back : (t : Step) → step_of (numbers_of t) ≡ t
unfolding numbers_of step_of
numbers-back t = refl

-- ---- the trailer

trailer_back : (count : ℕ) → trailer_at (trailer_bytes count) ≡ record { offset = 12 * count; count = count; marked = true }
unfolding trailer_at trailer_bytes
trailer_back count = simp (whole_four_lem (12 * count), whole_four_lem count)

-- ---- from a setup and steps to bytes and back

module _ (s : Setup) (ts : List Step) (classes : length s.classes ≡ 7) (units : length s.units ≡ slots) where
  abbrev rows : List ℕ
  rows = joined (map record_bytes ts)

  abbrev b : List ℕ
  b = script_bytes s ts

  length_rows : length rows ≡ 12 * length ts
  length_rows = length-row record_bytes 12 twelve_bytes ts

  pub length_script : length b ≡ script_length (length ts)
  unfolding script_bytes
  length_script = simp (length-append, length_rows, length_setup s classes units, trailer_bytes_lem (length ts))

  trailer_is : trailer_of b ≡ record { offset = 12 * length ts; count = length ts; marked = true }
  unfolding trailer_of script_bytes
  trailer_is =
      ap trailer_at (last-part rows (setup_bytes s) (trailer_bytes (length ts)) (12 * length ts) setup_length 12
      length_rows (length_setup s classes units) (trailer_bytes_lem (length ts)))
      ∙ trailer_back (length ts)

  count-is : count_of b ≡ length ts
  count-is = ap (λ (t : Trailer). t.count) trailer_is

  records_are : cut 12 (length ts) b ≡ map record_bytes ts
  unfolding script_bytes
  records_are = cut-row record_bytes 12 twelve_bytes ts (setup_bytes s ++ trailer_bytes (length ts))

  setup_part : setup_at (part b (12 * length ts) setup_length) ≡ s
  unfolding script_bytes
  setup_part =
      ap setup_at (middle_part rows (setup_bytes s) (trailer_bytes (length ts)) (12 * length ts) setup_length 12
      length_rows (length_setup s classes units) (trailer_bytes_lem (length ts)))
      ∙ setup_back s classes units

  first_is : first_not record_in_form (cut 12 (length ts) b) ≡ first_not in_form ts
  first_is =
      rw (records_are, first_map record_in_form record_bytes ts) (first_same (λ t. record_in_form (record_bytes t)) in_form form_back ts)

  -- a script's bytes say its steps
  pub steps_back : steps_of b ≡ ts
  unfolding steps_of
  steps_back = rw (count-is, records_are) (map_back step_at record_bytes step_back ts)

  -- and they are read, with its setup and its count
  pub reads_back : (space : ℕ) → in_range s ≡ true → length ts ≤ most_steps → first_not in_form ts ≡ length ts → 6 * length ts ≤ space
      → read_script b space ≡ record { answer = 0; place = 0; count = length ts; setup = s }
  unfolding agrees
  reads_back space range few form room =
      let size = length_script in
      let agree : not (agrees (record { offset = 12 * length ts; count = length ts; marked = true }) (length b)) ≡ false
      = simp (agrees, eq-eqb _ _ (refl {A = ℕ} {a = 12 * length ts}), eq-eqb _ _ size, le-leb _ _ few) in
      let long : script_length 0 ≤ length b = omega arith in
      let short : length b ≤ script_length most_steps = omega arith in
      sym (by_0 b space long short _ trailer_is refl agree (rw setup_part range) (length ts) (sym (first_is ∙ form)) (omega arith) room s (sym setup_part))

-- what the writer accepts reads back as the same setup and steps, and the same numbers
module _ (s : Setup) (l : List ℕ) (count space : ℕ) (classes : length s.classes ≡ 7) (units : length s.units ≡ slots)
    (took : (write_script s l count space).answer ≡ 0) where
  abbrev ts : List Step
  ts = steps_in l count

  pub written_read : (room : ℕ) → 6 * count ≤ room
      → read_script (script_bytes s ts) room ≡ record { answer = 0; place = 0; count = count; setup = s }
  written_read room h =
      let a = written s l count space took in
      let n = length-steps l count in
      rw n at (reads_back s ts classes units room a.range (omega arith) (a.form ∙ sym n) (omega arith))

  pub written-steps : steps_of (script_bytes s ts) ≡ ts
  written-steps = steps_back s ts classes units

  pub written-numbers : joined (map numbers_of ts) ≡ take (6 * count) l
  unfolding steps_in
  written-numbers =
      let a = written s l count space took in
      ap joined (cut-back (λ x. Unit) (λ n x u. u) (λ n x u. u) step_of numbers_of (λ x. true) 6 (λ p h u t. numbers-same p h) count l a.there tt
      (first_none (cut 6 count l) ∙ length_cut 6 count l))
      ∙ joined-cut 6 count l

-- ---- from bytes to a setup and steps and back

-- a trailer that agrees is that of its count
trailer_same : (p : List ℕ) → length p ≡ 12 → Bytes p → (trailer_at p).offset ≡ 12 * (trailer_at p).count → (trailer_at p).marked ≡ true
    → trailer_bytes (trailer_at p).count ≡ p
unfolding trailer_at trailer_bytes listed
trailer_same p h b offset marked =
    let m8 = eqb (get_or p 8 0) 80 in
    let m9 = eqb (get_or p 9 0) 76 in
    let m10 = eqb (get_or p 10 0) 82 in
    let m11 = eqb (get_or p 11 0) 78 in
    let e8 = eqb-true (get_or p 8 0) 80 (and_left m8 (m9 && (m10 && m11)) marked) in
    let r8 = and_right m8 (m9 && (m10 && m11)) marked in
    let e9 = eqb-true (get_or p 9 0) 76 (and_left m9 (m10 && m11) r8) in
    let r9 = and_right m9 (m10 && m11) r8 in
    let e10 = eqb-true (get_or p 10 0) 82 (and_left m10 m11 r9) in
    let e11 = eqb-true (get_or p 11 0) 78 (and_right m10 m11 r9) in
    simp (
      ← offset,
      byte_0 (get_or p 0 0) (get_or p 1 0) (get_or p 2 0) (get_or p 3 0) (b 0) (b 1) (b 2),
      byte_1 (get_or p 0 0) (get_or p 1 0) (get_or p 2 0) (get_or p 3 0) (b 0) (b 1) (b 2),
      byte_2 (get_or p 0 0) (get_or p 1 0) (get_or p 2 0) (get_or p 3 0) (b 0) (b 1) (b 2),
      byte_3 (get_or p 0 0) (get_or p 1 0) (get_or p 2 0) (get_or p 3 0) (b 0) (b 1) (b 2),
      byte_0 (get_or p 4 0) (get_or p 5 0) (get_or p 6 0) (get_or p 7 0) (b 4) (b 5) (b 6),
      byte_1 (get_or p 4 0) (get_or p 5 0) (get_or p 6 0) (get_or p 7 0) (b 4) (b 5) (b 6),
      byte_2 (get_or p 4 0) (get_or p 5 0) (get_or p 6 0) (get_or p 7 0) (b 4) (b 5) (b 6),
      byte_3 (get_or p 4 0) (get_or p 5 0) (get_or p 6 0) (get_or p 7 0) (b 4) (b 5) (b 6),
    )
    (simp (e8, e9, e10, e11) at (listed_all 0 12 p h))

module _ (b : List ℕ) (space : ℕ) (bytes : Bytes b) (took : (read_script b space).answer ≡ 0) where
  a : Accepted b space
  a = accepted b space took

  fits : (length b ≡ script_length (count_of b)) × (count_of b ≤ most_steps)
  fits = agreed (trailer_of b) (length b) a.agree

  all_records : first_not record_in_form (records_of b) ≡ count_of b
  all_records = let k = a.form in omega (arith, first_most record_in_form (records_of b), length_cut 12 (count_of b) b)

  records_same : joined (map record_bytes (steps_of b)) ≡ take (12 * count_of b) b
  unfolding steps_of
  records_same =
      let f = fits.0 in
      ap joined (cut-back Bytes bytes_take bytes_drop step_at record_bytes record_in_form 12 record_same (count_of b) b (omega arith) bytes all_records)
      ∙ joined-cut 12 (count_of b) b

  setup_same : setup_bytes (setup_of b) ≡ part b (12 * count_of b) setup_length
  unfolding setup_of
  setup_same =
      let f = fits.0 in
      let room : setup_length ≤ length (drop (12 * count_of b) b) = rw length-drop (omega arith) in
      bytes_same (part b (12 * count_of b) setup_length) (length-take-le setup_length (drop (12 * count_of b) b) room)
      (bytes_take setup_length (drop (12 * count_of b) b) (bytes_drop (12 * count_of b) b bytes))

  end_same : trailer_bytes (count_of b) ≡ part b (length b - 12) 12
  unfolding trailer_of
  end_same =
      let f = fits.0 in
      let room : 12 ≤ length (drop (length b - 12) b) = rw length-drop (omega arith) in
      trailer_same (part b (length b - 12) 12) (length-take-le 12 (drop (length b - 12) b) room)
      (bytes_take 12 (drop (length b - 12) b) (bytes_drop (length b - 12) b bytes))
      (agreed_offset (trailer_of b) (length b) a.agree) (not-false (trailer_of b).marked a.marked)

  pub count-steps : length (steps_of b) ≡ count_of b
  unfolding steps_of
  count-steps = length-read step_at 12 (count_of b) b

  -- what the reader accepts is written as the same bytes
  pub read-written : script_bytes (setup_of b) (steps_of b) ≡ b
  unfolding script_bytes
  read-written =
      rw (count-steps, records_same, setup_same, end_same) (three_parts b (12 * count_of b) setup_length 12 fits.0)

  -- and the writer takes it, from the numbers that were read and whatever stands behind them
  pub steps-again : (rest : List ℕ) → steps_in (joined (map numbers_of (steps_of b)) ++ rest) (count_of b) ≡ steps_of b
  unfolding steps_in
  steps-again rest =
      rw (← count-steps, cut-row numbers_of 6 six_numbers (steps_of b) rest) (map_back step_of numbers_of numbers-back (steps_of b))

  all-steps : first_not in_form (steps_of b) ≡ count_of b
  unfolding steps_of record_in_form
  all-steps =
      let n = length_cut 12 (count_of b) b in
      first_map in_form step_at (records_of b)
      ∙ first_weaker record_in_form (λ r. in_form (step_at r))
      (λ r h. and_right (eqb (get_or r 7 0) 0) (in_form (step_at r)) (and_right (eqb (get_or r 6 0) 0) (eqb (get_or r 7 0) 0 && in_form (step_at r)) h))
      (records_of b) (all_records ∙ sym n)
      ∙ n

  pub taken-again : (rest : List ℕ) (room : ℕ) → length b ≤ room
      → write_script (setup_of b) (joined (map numbers_of (steps_of b)) ++ rest) (count_of b) room ≡ record { answer = 0; place = 0; length = length b }
  taken-again rest room h =
      let f = fits.0 in
      let l = joined (map numbers_of (steps_of b)) ++ rest in
      let there : 6 * count_of b ≤ length l
      = omega (arith, length-append (joined (map numbers_of (steps_of b))) rest, length-row numbers_of 6 six_numbers (steps_of b), count-steps) in
      let all : count_of b ≡ first_not in_form (steps_in l (count_of b)) = rw (steps-again rest) (sym all-steps) in
      rw f (sym (done (setup_of b) l (count_of b) room fits.1 there (ap not a.range) (count_of b) all (omega arith) (omega arith)))
