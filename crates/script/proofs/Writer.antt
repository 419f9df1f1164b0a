-- The writer's answers, one law for each row of the table: a section for each test that was passed.
-- Assumes nothing.
use Prim.Native.Nat.{ℕ, ◌+◌, ◌*◌, ◌≤◌, ◌<◌}
use mathlib.Core.Path.{◌≡◌, refl, ap, ◌∙◌}
use mathlib.Core.Bool.{true, false, not}
use mathlib.Core.List.{List, ◌++◌, map, append_assoc}
use native.Mathlib.Omega.{arith}
use lib.ListN.{length, drop, take, length-append}
use borrow.Author.Tests.{le-ltb, lt-ltb, ne_eqb, not-false}
use Rattle.basics.specs.Each.{first_not}
use Rattle.basics.specs.Parts.{joined}
use Rattle.basics.proofs.Each.{by_bool, by_order_lem, first_most}
use Rattle.basics.proofs.Parts.{filled, filled_more, length-read, length-row}
use Rattle.setup.specs.Setup.{in_range}
use Rattle.setup.specs.Bytes.{setup_bytes, setup_length}
use Rattle.setup.specs.declared.Setup.{Setup}
use Rattle.script.specs.Script.{buffer_after, most_steps, rejected, script_bytes, script_length, steps_in, trailer_bytes, write_script}
use Rattle.script.specs.Step.{in_form, record_bytes, step_of}
use Rattle.script.specs.declared.Step.{Step}
use Rattle.script.specs.Script.{Written}
use Rattle.script.proofs.Form.{twelve_bytes}

pub length-steps : (l : List ℕ) (count : ℕ) → length (steps_in l count) ≡ count
unfolding steps_in
length-steps l count = length-read step_of 6 count l

-- where no step is found out of form, all are in form
pub all_form : (l : List ℕ) (count f : ℕ) → f ≡ first_not in_form (steps_in l count) → count ≤ f → first_not in_form (steps_in l count) ≡ count
all_form l count f e h = omega (arith, first_most in_form (steps_in l count), length-steps l count)

module _ (s : Setup) (l : List ℕ) (count : ℕ) (space : ℕ) where
  pub many : most_steps < count → rejected 4 0 ≡ write_script s l count space
  unfolding write_script
  many h = simp (write_script, lt-ltb _ _ h)

  module _ (few : count ≤ most_steps) where
    pub missing : length l < 6 * count → rejected 4 0 ≡ write_script s l count space
    unfolding write_script
    missing h = simp (write_script, le-ltb _ _ few, lt-ltb _ _ h)

    module _ (there : 6 * count ≤ length l) where
      pub wrong : not (in_range s) ≡ true → rejected 5 (12 * count) ≡ write_script s l count space
      unfolding write_script
      wrong h = simp (write_script, le-ltb _ _ few, le-ltb _ _ there, h)

      module _ (ok : not (in_range s) ≡ false) (f : ℕ) (first : f ≡ first_not in_form (steps_in l count)) where
        pub formless : f < count → rejected 6 (12 * f) ≡ write_script s l count space
        unfolding write_script
        formless h = simp (write_script, le-ltb _ _ few, le-ltb _ _ there, ok, ← first, lt-ltb _ _ h)

        module _ (form : count ≤ f) where
          pub short : space < script_length count → rejected 7 0 ≡ write_script s l count space
          unfolding write_script
          short h = simp (write_script, le-ltb _ _ few, le-ltb _ _ there, ok, ← first, le-ltb _ _ form, lt-ltb _ _ h)

          pub done : script_length count ≤ space
              → record { answer = 0; place = 0; length = script_length count } ≡ write_script s l count space
          unfolding write_script
          done h = simp (write_script, le-ltb _ _ few, le-ltb _ _ there, ok, ← first, le-ltb _ _ form, le-ltb _ _ h)

-- ---- what answer 0 means

pub record Taken (s : Setup) (l : List ℕ) (count space : ℕ) : Type 0 where
  pub few : count ≤ most_steps
  pub there : 6 * count ≤ length l
  pub range : in_range s ≡ true
  pub form : first_not in_form (steps_in l count) ≡ count
  pub room : script_length count ≤ space

module _ (s : Setup) (l : List ℕ) (count space : ℕ) (zero : (write_script s l count space).answer ≡ 0) where
  clash : (n p : ℕ) → rejected (n + 1) p ≡ write_script s l count space → Taken s l count space
  clash n p e = let z : n + 1 ≡ 0 = ap (λ (r : Written). r.answer) e ∙ zero in absurd (omega arith)

  pub written : Taken s l count space
  written =
      by_order_lem most_steps count (λ h. clash 3 0 (many s l count space h)) (λ few.
      by_order_lem (length l) (6 * count) (λ h. clash 3 0 (missing s l count space few h)) (λ there.
      by_bool (not (in_range s)) (λ h. clash 4 (12 * count) (wrong s l count space few there h)) (λ ok.
      by_order_lem (first_not in_form (steps_in l count)) count
      (λ h. clash 5 (12 * first_not in_form (steps_in l count)) (formless s l count space few there ok _ refl h)) (λ form.
      by_order_lem space (script_length count) (λ h. clash 6 0 (short s l count space few there ok _ refl form h)) (λ room.
      record {
        few = few;
        there = there;
        range = not-false (in_range s) ok;
        form = all_form l count _ refl form;
        room = room;
      })))))

-- ---- the buffer lent

module _ (s : Setup) (l : List ℕ) (count : ℕ) (w : List ℕ) where
  -- a refusal leaves it
  pub buffer_kept : (r : Written) (n p : ℕ) → r ≡ rejected (n + 1) p → rejected (n + 1) p ≡ write_script s l count (length w)
      → (r ≡ write_script s l count (length w)) × (w ≡ buffer_after s l count w)
  unfolding buffer_after
  buffer_kept r n p e k =
      let no : n + 1 ≡ 0 → ⊥ = λ z. omega arith in
      (e ∙ k, simp (buffer_after, ← k, ne_eqb (n + 1) 0 no))

  -- and answer 0 fills it
  pub buffer_filled : record { answer = 0; place = 0; length = script_length count } ≡ write_script s l count (length w)
      → script_bytes s (steps_in l count) ++ drop (script_length count) w ≡ buffer_after s l count w
  unfolding buffer_after
  buffer_filled k = simp (buffer_after, ← k)

-- ---- the script's parts: the records, then the setup's, then the trailer's

module _ (s : Setup) (ts : List Step) (count : ℕ) (w : List ℕ) (is : length ts ≡ count) (size : length (setup_bytes s) ≡ setup_length) where
  abbrev rows : List ℕ
  rows = joined (map record_bytes ts)

  length_records : length rows ≡ 12 * count
  length_records = rw (length-row record_bytes 12 twelve_bytes ts, is)

  length_both : length (rows ++ setup_bytes s) ≡ 12 * count + setup_length
  length_both = length-append rows (setup_bytes s) ∙ rw (length_records, size)

  abbrev pub with_setup : List ℕ
  with_setup = filled (12 * count + setup_length) (rows ++ setup_bytes s) w

  pub setup_put : take (12 * count) (filled (12 * count) rows w)
      ++ (setup_bytes s ++ drop setup_length (drop (12 * count) (filled (12 * count) rows w))) ≡ with_setup
  setup_put = filled_more (12 * count) rows w length_records (setup_bytes s) setup_length

  pub trailer_put : take (12 * count + setup_length) with_setup ++ (trailer_bytes count ++ drop 12 (drop (12 * count + setup_length) with_setup))
      ≡ script_bytes s ts ++ drop (script_length count) w
  unfolding script_bytes
  trailer_put =
      let e : 12 * count + setup_length + 12 ≡ script_length count = omega arith in
      filled_more (12 * count + setup_length) (rows ++ setup_bytes s) w length_both (trailer_bytes count) 12
      ∙ rw (e, is) (ap (λ r. r ++ drop (script_length count) w) (append_assoc rows (setup_bytes s) (trailer_bytes count)))
