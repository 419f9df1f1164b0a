-- The reader's later answers, from what the code has at hand: the trailer and the setup as they were read from their parts.
-- Assumes nothing.
use Prim.Native.Nat.{ℕ, ◌+◌, ◌*◌, ◌-◌, ◌≤◌, ◌<◌}
use mathlib.Core.Path.{◌≡◌, sym}
use mathlib.Core.Bool.{Bool, false, not}
use mathlib.Core.List.{List}
use native.Mathlib.Omega.{arith}
use lib.ListN.{drop, length, length-drop, take}
use lib.Seq.{length-take-le}
use Rattle.basics.specs.Each.{first_not}
use Rattle.basics.specs.Parts.{cut, part}
use Rattle.setup.specs.Bytes.{read_setup, setup_length}
use Rattle.setup.specs.Bytes.{Found}
use Rattle.setup.proofs.Answers.{found_bad, found_good}
use Rattle.script.specs.Script.{agrees, most_steps, read_script, refused, script_length, trailer_at, trailer_of}
use Rattle.script.specs.Step.{record_in_form}
use Rattle.script.specs.declared.Trailer.{Trailer}
use Rattle.script.proofs.Reader.{agreed, by_0, by_5, by_6, by_7}

-- the part that was lent as the trailer is the last 12 bytes
pub last_twelve : (b : List ℕ) (t : Trailer) → script_length 0 ≤ length b
    → t ≡ trailer_at (take (length b - (length b - 12)) (drop (length b - 12) b)) → trailer_of b ≡ t
unfolding trailer_of
last_twelve b t long e = let w : length b - (length b - 12) ≡ 12 = omega arith in sym (rw w at e)

module _ (b : List ℕ) (space : ℕ) (long : script_length 0 ≤ length b) (short : length b ≤ script_length most_steps)
    (t : Trailer) (last : t ≡ trailer_at (take (length b - (length b - 12)) (drop (length b - 12) b))) (marked : not t.marked ≡ false)
    (g : Bool) (asked : g ≡ agrees t (length b)) (agree : not g ≡ false)
    (f : Found) (read : f ≡ read_setup (take (12 * t.count + setup_length - 12 * t.count) (drop (12 * t.count) b))) where
  is : trailer_of b ≡ t
  is = last_twelve b t long last

  fits : not (agrees t (length b)) ≡ false
  fits = rw asked at agree

  read-part : f ≡ read_setup (part b (12 * t.count) setup_length)
  read-part = let w : 12 * t.count + setup_length - 12 * t.count ≡ setup_length = omega arith in rw w at read

  size : length (part b (12 * t.count) setup_length) ≡ setup_length
  size =
      let a = (agreed t (length b) fits).0 in
      length-take-le setup_length (drop (12 * t.count) b) (rw length-drop (omega arith))

  pub refuses_5 : (f.answer ≡ 0 → ⊥) → refused 5 (12 * t.count) ≡ read_script b space
  refuses_5 h = by_5 b space long short t is marked fits (found_bad _ size f read-part h)

  module _ (ok : f.answer ≡ 0) (n : ℕ) (first : n ≡ first_not record_in_form (cut 12 t.count b)) where
    pub refuses_6 : n < t.count → refused 6 (12 * n) ≡ read_script b space
    refuses_6 h = by_6 b space long short t is marked fits (found_good _ size f read-part ok).0 n first h

    module _ (form : t.count ≤ n) where
      pub refuses_7 : space < 6 * t.count → refused 7 0 ≡ read_script b space
      refuses_7 h = by_7 b space long short t is marked fits (found_good _ size f read-part ok).0 n first form h

      pub reads : 6 * t.count ≤ space → record { answer = 0; place = 0; count = t.count; setup = f.setup } ≡ read_script b space
      reads h = let good = found_good _ size f read-part ok in by_0 b space long short t is marked fits good.0 n first form h f.setup good.1
