-- The reader's answers, one law for each row of the table: a section for each test that was passed.
-- Assumes nothing.
use Prim.Native.Nat.{ℕ, ◌+◌, ◌*◌, ◌≤◌, ◌<◌}
use mathlib.Core.Path.{◌≡◌, refl, sym, ap, ◌∙◌}
use mathlib.Core.Bool.{true, false, ◌&&◌, not}
use mathlib.Core.List.{List, ◌++◌, map}
use native.Mathlib.Omega.{arith}
use lib.Dec.{leb, eqb}
use lib.ListN.{length, drop}
use borrow.Author.Tests.{eqb-true, leb-true, le-ltb, lt-ltb, ne_eqb, not-false}
use Rattle.basics.specs.Each.{first_not}
use Rattle.basics.specs.Parts.{cut, joined, part}
use Rattle.basics.proofs.Branches.{and_left, and_right}
use Rattle.basics.proofs.Each.{by_bool, by_order_lem}
use Rattle.setup.specs.Setup.{in_range}
use Rattle.setup.specs.Bytes.{setup_at, setup_length}
use Rattle.setup.specs.declared.Setup.{Setup}
use Rattle.script.specs.Script.{agrees, count_of, list_after, most_steps, read_script, refused, script_length, setup_of, steps_of, trailer_of}
use Rattle.script.specs.Step.{numbers_of, record_in_form, step_at}
use Rattle.script.specs.Script.{Read}
use Rattle.script.specs.declared.Trailer.{Trailer}

-- a trailer that agrees has the size's count, and not too many steps
pub agreed : (t : Trailer) (size : ℕ) → not (agrees t size) ≡ false → (size ≡ script_length t.count) × (t.count ≤ most_steps)
unfolding agrees
agreed t size h =
    let same = eqb size (script_length t.count) in
    let few = leb t.count most_steps in
    let both = and_right (eqb t.offset (12 * t.count)) (same && few) (not-false (agrees t size) h) in
    (eqb-true size (script_length t.count) (and_left same few both), leb-true t.count most_steps (and_right same few both))

pub agreed_offset : (t : Trailer) (size : ℕ) → not (agrees t size) ≡ false → t.offset ≡ 12 * t.count
unfolding agrees
agreed_offset t size h =
    eqb-true t.offset (12 * t.count)
    (and_left (eqb t.offset (12 * t.count)) (eqb size (script_length t.count) && leb t.count most_steps) (not-false (agrees t size) h))

module _ (b : List ℕ) (space : ℕ) where
  pub by_1 : length b < script_length 0 → refused 1 0 ≡ read_script b space
  unfolding read_script
  by_1 h = simp (read_script, lt-ltb _ _ h)

  module _ (long : script_length 0 ≤ length b) where
    pub by_2 : script_length most_steps < length b → refused 2 0 ≡ read_script b space
    unfolding read_script
    by_2 h = simp (read_script, le-ltb _ _ long, lt-ltb _ _ h)

    module _ (short : length b ≤ script_length most_steps) (t : Trailer) (is : trailer_of b ≡ t) where
      count-is : count_of b ≡ t.count
      count-is = ap (λ (x : Trailer). x.count) is

      setup_is : setup_of b ≡ setup_at (part b (12 * t.count) setup_length)
      unfolding setup_of
      setup_is = rw count-is

      pub by_3 : not t.marked ≡ true → refused 3 0 ≡ read_script b space
      unfolding read_script
      by_3 h = simp (read_script, le-ltb _ _ long, le-ltb _ _ short, is, h)

      module _ (marked : not t.marked ≡ false) where
        pub by_4 : not (agrees t (length b)) ≡ true → refused 4 0 ≡ read_script b space
        unfolding read_script
        by_4 h = simp (read_script, le-ltb _ _ long, le-ltb _ _ short, is, marked, h)

        module _ (agree : not (agrees t (length b)) ≡ false) where
          pub by_5 : in_range (setup_at (part b (12 * t.count) setup_length)) ≡ false → refused 5 (12 * t.count) ≡ read_script b space
          unfolding read_script
          by_5 h = simp (read_script, le-ltb _ _ long, le-ltb _ _ short, is, count-is, setup_is, marked, agree, h)

          module _ (ok : in_range (setup_at (part b (12 * t.count) setup_length)) ≡ true) (f : ℕ)
              (first : f ≡ first_not record_in_form (cut 12 t.count b)) where
            pub by_6 : f < t.count → refused 6 (12 * f) ≡ read_script b space
            unfolding read_script
            by_6 h = simp (read_script, le-ltb _ _ long, le-ltb _ _ short, is, count-is, setup_is, marked, agree, ok, ← first, lt-ltb _ _ h)

            module _ (form : t.count ≤ f) where
              pub by_7 : space < 6 * t.count → refused 7 0 ≡ read_script b space
              unfolding read_script
              by_7 h = simp (read_script, le-ltb _ _ long, le-ltb _ _ short, is, count-is, setup_is, marked, agree, ok, ← first, le-ltb _ _ form, lt-ltb _ _ h)

              pub by_0 : 6 * t.count ≤ space → (s : Setup) → s ≡ setup_at (part b (12 * t.count) setup_length)
                  → record { answer = 0; place = 0; count = t.count; setup = s } ≡ read_script b space
              unfolding read_script
              by_0 h s e = simp (read_script, le-ltb _ _ long, le-ltb _ _ short, is, count-is, setup_is, marked, agree, ok, ← first, le-ltb _ _ form, le-ltb _ _ h, e)

-- ---- what answer 0 means

pub record Accepted (b : List ℕ) (space : ℕ) : Type 0 where
  pub marked : not (trailer_of b).marked ≡ false
  pub agree : not (agrees (trailer_of b) (length b)) ≡ false
  pub range : in_range (setup_of b) ≡ true
  pub form : count_of b ≤ first_not record_in_form (cut 12 (count_of b) b)
  pub room : 6 * count_of b ≤ space
  pub is : record { answer = 0; place = 0; count = count_of b; setup = setup_of b } ≡ read_script b space

module _ (b : List ℕ) (space : ℕ) (zero : (read_script b space).answer ≡ 0) where
  clash : (n p : ℕ) → refused (n + 1) p ≡ read_script b space → Accepted b space
  clash n p e = let z : n + 1 ≡ 0 = ap (λ (r : Read). r.answer) e ∙ zero in absurd (omega arith)

  pub accepted : Accepted b space
  unfolding setup_of
  accepted =
      by_order_lem (length b) (script_length 0) (λ h. clash 0 0 (by_1 b space h)) (λ long.
      by_order_lem (script_length most_steps) (length b) (λ h. clash 1 0 (by_2 b space long h)) (λ short.
      by_bool (not (trailer_of b).marked) (λ h. clash 2 0 (by_3 b space long short (trailer_of b) refl h)) (λ marked.
      by_bool (not (agrees (trailer_of b) (length b))) (λ h. clash 3 0 (by_4 b space long short (trailer_of b) refl marked h)) (λ agree.
      by_bool (in_range (setup_of b)) (λ range.
      by_order_lem (first_not record_in_form (cut 12 (count_of b) b)) (count_of b)
      (λ h. clash 5 (12 * first_not record_in_form (cut 12 (count_of b) b)) (by_6 b space long short (trailer_of b) refl marked agree range _ refl h)) (λ form.
      by_order_lem space (6 * count_of b) (λ h. clash 6 0 (by_7 b space long short (trailer_of b) refl marked agree range _ refl form h)) (λ room.
      record {
        marked = marked;
        agree = agree;
        range = range;
        form = form;
        room = room;
        is = by_0 b space long short (trailer_of b) refl marked agree range _ refl form room (setup_of b) refl;
      })))
      (λ h. clash 4 (12 * count_of b) (by_5 b space long short (trailer_of b) refl marked agree h))))))

-- ---- the list lent

module _ (b l : List ℕ) (r : Read) (e : r ≡ read_script b (length l)) where
  -- a refusal leaves it
  pub list_kept : (r.answer ≡ 0 → ⊥) → l ≡ list_after b l
  unfolding list_after
  list_kept h = simp (list_after, ← e, ne_eqb _ _ h)

  module _ (z : r.answer ≡ 0) where
    took : Accepted b (length l)
    took = accepted b (length l) (ap (λ (x : Read). x.answer) (sym e) ∙ z)

    count-read : r.count ≡ count_of b
    count-read = ap (λ (x : Read). x.count) (e ∙ sym took.is)

    pub list_fits : (r.count ≤ most_steps) × (12 * r.count ≤ length b) × (6 * r.count ≤ length l)
    list_fits =
        let a = agreed (trailer_of b) (length b) took.agree in
        let k = took.room in
        let c = count-read in
        (omega arith, omega arith, omega arith)

    -- and answer 0 fills it
    pub list-filled : joined (map numbers_of (map step_at (cut 12 r.count b))) ++ drop (6 * r.count) l ≡ list_after b l
    unfolding list_after steps_of
    list-filled = rw count-read (simp (list_after, ← e, z))
