-- What the answers of reading and writing a setup mean.
-- Assumes nothing.
use Prim.Native.Nat.{ℕ, ◌≤◌}
use mathlib.Core.Path.{◌≡◌, refl}
use mathlib.Core.Bool.{Bool, true, false}
use mathlib.Core.List.{List, append-nil}
use native.Mathlib.Omega.{arith}
use lib.ListN.{length, drop_of_length-le}
use borrow.Author.Tests.{eq-eqb, le-ltb}
use Rattle.setup.specs.Setup.{in_range}
use Rattle.setup.specs.Bytes.{no_setup, read_setup, setup_after, setup_at, setup_bytes, setup_length, write_answer}
use Rattle.setup.specs.Bytes.{Found}
use Rattle.setup.specs.declared.Setup.{Setup}

module _ (b : List ℕ) (size : length b ≡ setup_length) (f : Found) (is : f ≡ read_setup b) where
  -- refused: out of range
  pub found_bad : (f.answer ≡ 0 → ⊥) → in_range (setup_at b) ≡ false
  unfolding read_setup no_setup
  found_bad h = go (in_range (setup_at b)) refl
    where
      go : (r : Bool) → in_range (setup_at b) ≡ r → in_range (setup_at b) ≡ false
      go true e = absurd (h (rw is (simp (read_setup, eq-eqb _ _ size, e))))
      go false e = e

  -- accepted: in range, and the setup that the bytes say
  pub found_good : f.answer ≡ 0 → (in_range (setup_at b) ≡ true) × (f.setup ≡ setup_at b)
  unfolding read_setup no_setup
  found_good h = go (in_range (setup_at b)) refl
    where
      go : (r : Bool) → in_range (setup_at b) ≡ r → (in_range (setup_at b) ≡ true) × (f.setup ≡ setup_at b)
      go true e = (e, rw is (simp (read_setup, eq-eqb _ _ size, e)))
      go false e = let five : f.answer ≡ 5 = rw is (simp (read_setup, no_setup, eq-eqb _ _ size, e)) in absurd (omega arith)

-- a setup in range is written over a part of its length
pub setup_written : (s : Setup) (w : List ℕ) → in_range s ≡ true → length w ≡ setup_length → setup_after s w ≡ setup_bytes s
unfolding setup_after write_answer
setup_written s w ok size =
    let room : setup_length ≤ length w = omega arith in
    simp (setup_after, write_answer, ok, le-ltb _ _ room, drop_of_length-le w {i = setup_length} (omega arith), append-nil)
