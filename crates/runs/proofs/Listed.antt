-- Laws of the list lent for the answers: one step more, and one pair more where there is room.
-- Assumes nothing.
use Rattle.std.proofs.Common.{◌≡◌, ℕ, ◌+◌, ◌*◌, ◌/◌, ◌<◌, ◌≤◌, List, [], ◌∷◌, ◌++◌, length, set, sym, refl, append_assoc, arith, length-append, length-drop, length-take, take_all, le-ltb, lt-ltb}
use lib.Seq.{take-append-le, take-nil}
use Rattle.basics.specs.Parts.{part}
use Rattle.basics.proofs.Each.{by_order_lem}
use Rattle.basics.proofs.Parts as parts
use Rattle.script.specs.declared.Step.{Step}
use Rattle.script.specs.Step.{step_of}
use Rattle.script.specs.Script.{steps_in}
use Rattle.runs.specs.declared.Run.{Run}
use Rattle.runs.specs.Runs.{Advanced}
use Rattle.runs.specs.Runs.{step_from, advance_of, answers_of, filled, noted, run_of}
use Rattle.runs.proofs.Folds.{run-next}

-- a step that is there
pub step_there : (l : List ℕ) (i : ℕ) → i < length l / 6 → step_from l i ≡ step_of (part l (6 * i) 6)
unfolding step_from
step_there l i h = simp (step_from, lt-ltb _ _ h)

-- ---- one step more

answers_more : (r : Run) (ts : List Step) (t : Step)
    → answers_of r (ts ++ (t ∷ [])) ≡ answers_of r ts ++ ((advance_of (run_of r ts) t).answer ∷ (advance_of (run_of r ts) t).detail ∷ [])
unfolding answers_of run_of
answers_more r [] t = refl
answers_more r (x ∷ xs) t = rw (answers_more (advance_of r x).run xs t)

length_answers : (r : Run) (ts : List Step) → length (answers_of r ts) ≡ 2 * length ts
unfolding answers_of
length_answers r [] = refl
length_answers r (t ∷ ts) = let e = length_answers (advance_of r t).run ts in omega arith

module _ (r : Run) (l : List ℕ) (i : ℕ) where
  length_listed : length (answers_of r (steps_in l i)) ≡ 2 * i
  unfolding steps_in
  length_listed = rw (length_answers r (steps_in l i), parts.length-read step_of 6 i l)

  answers_next : (t : Step) → t ≡ step_of (part l (6 * i) 6) → (x : Run) → x ≡ run_of r (steps_in l i)
      → answers_of r (steps_in l (i + 1)) ≡ answers_of r (steps_in l i) ++ ((advance_of x t).answer ∷ (advance_of x t).detail ∷ [])
  unfolding steps_in
  answers_next t et x ex = rw (parts.read_more step_of 6 i l, answers_more r (steps_in l i) (step_of (part l (6 * i) 6)), et, ex)

-- ---- one pair more

pub filled_none : (out : List ℕ) → out ≡ filled out []
unfolding filled
filled_none out = rw (take-nil {A = ℕ} (2 * (length out / 2)))

module _ (out xs : List ℕ) where
  pub length-filled : length (filled out xs) ≡ length out
  unfolding filled
  length-filled = simp (length-append, length-drop, length-take) (omega arith)

  -- all of the pairs have room
  roomy : length xs ≤ 2 * (length out / 2) → filled out xs ≡ parts.filled (length xs) xs out
  unfolding filled
  roomy h = rw (take_all (2 * (length out / 2)) xs h)

  -- what follows has none
  full : (ys : List ℕ) → 2 * (length out / 2) ≤ length xs → filled out xs ≡ filled out (xs ++ ys)
  unfolding filled
  full ys h = rw (take-append-le (2 * (length out / 2)) xs ys h)

module _ (out xs : List ℕ) (i a d : ℕ) (is : length xs ≡ 2 * i) where
  more : i < length out / 2 → set (set (filled out xs) (2 * i) a) (2 * i + 1) d ≡ filled out (xs ++ (a ∷ d ∷ []))
  more h =
      let one : length (xs ++ (a ∷ [])) ≡ 2 * i + 1 = rw (length-append, is) in
      let two : length (xs ++ (a ∷ d ∷ [])) ≡ 2 * i + 1 + 1 = rw (length-append, is) (omega arith) in
      let r = roomy out xs (omega arith) in
      let s = roomy out (xs ++ (a ∷ d ∷ [])) (omega arith) in
      rw (r, s, is, two, parts.filled-set (2 * i) xs out is a 0 (omega arith), parts.filled-set (2 * i + 1) (xs ++ (a ∷ [])) out one d 0 (omega arith), append_assoc xs (a ∷ []) (d ∷ []))

  pub filled_next : noted (filled out xs) i a d ≡ filled out (xs ++ (a ∷ d ∷ []))
  unfolding noted
  filled_next =
      by_order_lem i (length out / 2)
      (λ (h : i < length out / 2). simp (noted, length-filled out xs, lt-ltb _ _ h, more h))
      (λ (h : length out / 2 ≤ i). simp (noted, length-filled out xs, le-ltb _ _ h) (full out xs (a ∷ d ∷ []) (omega arith)))

-- ---- a turn of the loop: the list holds the answers of the steps passed, and step i is run and noted

module _ (r : Run) (l old out : List ℕ) (i : ℕ) (x : Run) (t : Step) (a : Advanced) where
  pub turn : x ≡ run_of r (steps_in l i) → out ≡ filled old (answers_of r (steps_in l i)) → t ≡ step_of (part l (6 * i) 6) → a ≡ advance_of x t
      → (length (noted out i a.answer a.detail) ≡ length old)
      × (a.run ≡ run_of r (steps_in l (i + 1)))
      × (noted out i a.answer a.detail ≡ filled old (answers_of r (steps_in l (i + 1))))
  turn ex eo et ea =
      let done : noted out i a.answer a.detail ≡ filled old (answers_of r (steps_in l (i + 1)))
      = rw (eo, answers_next r l i t et x ex, ea) (filled_next old (answers_of r (steps_in l i)) i (advance_of x t).answer (advance_of x t).detail (length_listed r l i)) in
      (rw done (length-filled old (answers_of r (steps_in l (i + 1)))), rw (ea, ex, et) (sym (run-next r l i)), done)
