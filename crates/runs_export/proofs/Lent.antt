-- The first steps of a list are those of its front alone.
-- Assumes nothing.
use Rattle.std.proofs.Common.{◌≡◌, ℕ, zero, suc, ◌-◌, ◌*◌, ◌/◌, ◌≤◌, List, map, length, take, drop, refl, ap, arith, length-take-le, take-take}
use Rattle.basics.specs.Parts.{cut}
use Rattle.basics.proofs.Shift.{drop-take}
use Rattle.script.specs.Script.{steps_in}
use Rattle.script.specs.Step.{step_of}

cut-front : (n : ℕ) (l : List ℕ) → cut 6 n (take (6 * n) l) ≡ cut 6 n l
unfolding cut
cut-front zero l = refl
cut-front (suc n) l =
    let e : 6 * suc n - 6 ≡ 6 * n = omega arith in
    rw (take-take 6 (6 * suc n) l (omega arith), drop-take 6 (6 * suc n) l (omega arith), e, cut-front n (drop 6 l))

steps_front : (n : ℕ) (l : List ℕ) → steps_in (take (6 * n) l) n ≡ steps_in l n
unfolding steps_in
steps_front n l = ap (map step_of) (cut-front n l)

-- the front, with as many steps as it holds
pub steps_lent : (n : ℕ) (l : List ℕ) → 6 * n ≤ length l → steps_in (take (6 * n) l) (length (take (6 * n) l) / 6) ≡ steps_in l n
steps_lent n l h =
    let long = length-take-le (6 * n) l h in
    let all : length (take (6 * n) l) / 6 ≡ n = omega arith in
    rw all (steps_front n l)
