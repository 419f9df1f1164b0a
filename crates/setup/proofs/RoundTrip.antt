-- What is written reads back as the same setup, and what is read is written again as the same bytes.
-- Assumes nothing.
use Prim.Native.Nat.{ℕ, ◌*◌, ◌≤◌, ◌<◌}
use mathlib.Core.Path.{◌≡◌, sym, ap, ◌∙◌}
use mathlib.Core.Bool.{true}
use mathlib.Core.List.{List, [], ◌∷◌, ◌++◌, map, append-nil}
use native.Mathlib.Omega.{arith}
use lib.ListN.{length, get_or, drop, length-drop, take-append-drop}
use lib.Seq.{take_at, drop_at, take_all, drop-drop, drop-cons}
use Rattle.basics.specs.Each.{first_not}
use Rattle.basics.specs.Parts.{part, cut, joined}
use Rattle.basics.proofs.Each.{first_none}
use Rattle.basics.proofs.Number.{whole_two_lem, low-two, high-two}
use Rattle.basics.proofs.Parts.{Bytes, bytes_drop, bytes_take, cut-back, cut-row, joined-cut, length_cut, listed, listed_all, map_back}
use Rattle.setup.specs.Setup.{slots}
use Rattle.setup.specs.Bytes.{units_bytes, units_of, setup_bytes, setup_at, setup_length}
use Rattle.setup.specs.declared.Setup.{Setup}
use Rattle.setup.specs.declared.Units.{Units}
use Rattle.setup.proofs.Rows.{four_bytes}

-- ---- units

units-back : (u : Units) → units_of (units_bytes u) ≡ u
unfolding units_of units_bytes
units-back u = simp whole_two_lem

bytes_back : (p : List ℕ) → length p ≡ 4 → Bytes p → units_bytes (units_of p) ≡ p
unfolding units_of units_bytes listed
bytes_back p h b =
    simp (
      low-two (get_or p 0 0) (get_or p 1 0) (b 0),
      high-two (get_or p 0 0) (get_or p 1 0) (b 0),
      low-two (get_or p 2 0) (get_or p 3 0) (b 2),
      high-two (get_or p 2 0) (get_or p 3 0) (b 2),
    ) (listed_all 0 4 p h)

-- ---- the setup

-- what is written reads back
pub setup_back : (s : Setup) → length s.classes ≡ 7 → length s.units ≡ slots → setup_at (setup_bytes s) ≡ s
unfolding setup_at setup_bytes
setup_back s h k =
    let row = joined (map units_bytes s.units) in
    let parts : cut 4 slots row ≡ map units_bytes s.units
    = rw (k, append-nil) at (cut-row units_bytes 4 four_bytes s.units []) in
    rw (take_at s.classes row 7 h, drop_at s.classes row 7 h, parts, map_back units_of units_bytes units-back s.units)

eight_and-rest : (b : List ℕ) → 0 < length b → get_or b 0 0 ∷ (part b 1 7 ++ drop 8 b) ≡ b
eight_and-rest b h =
    ap (λ r. get_or b 0 0 ∷ (part b 1 7 ++ r)) (sym (drop-drop 7 1 b))
    ∙ ap (λ r. get_or b 0 0 ∷ r) (take-append-drop 7 (drop 1 b))
    ∙ sym (drop-cons b 0 0 h)

-- what is read is written as it was
pub bytes_same : (b : List ℕ) → length b ≡ setup_length → Bytes b → setup_bytes (setup_at b) ≡ b
unfolding setup_at setup_bytes
bytes_same b h below =
    let long : 4 * slots ≤ length (drop 8 b) = rw length-drop (omega arith) in
    let short : length (drop 8 b) ≤ 4 * slots = rw length-drop (omega arith) in
    let count : first_not (λ p. true) (cut 4 slots (drop 8 b)) ≡ slots = first_none (cut 4 slots (drop 8 b)) ∙ length_cut 4 slots (drop 8 b) in
    rw (
      cut-back Bytes bytes_take bytes_drop units_of units_bytes (λ p. true) 4 (λ p w l t. bytes_back p w l) slots (drop 8 b) long (bytes_drop 8 b below) count,
      joined-cut,
      take_all (4 * slots) (drop 8 b) short,
    ) (eight_and-rest b (omega arith))
