-- `setup::put_setup` meets its contract: the first eight bytes, then the units' part.
-- Assumes nothing.
use Rattle.std.proofs.Common.{rules, ◌≡◌, ◌∷◌, ◌<◌, ◌-◌, ◌∙◌, ℕ, List, [], map, length, set, suc, ap, refl, arith}
use borrow.Rule.Slice.PartMut.{put_mid}
use Rattle.basics.specs.Parts.{joined}
use Rattle.basics.proofs.Parts.{filled, filled_more, filled_whole, length-filled}
use Rattle.setup.specs.Bytes.{setup_bytes, units_bytes}
use Rattle.setup.proofs.Rows.{length_setup}
use Rattle.setup.proofs.put_setup.Goals as goal

first_eight : (n : ℕ) (classes w : List ℕ) → 0 < length w → put_mid 1 7 (set w 0 n) classes ≡ filled 8 (n ∷ classes) w
first_eight n classes [] h = absurd (omega arith)
first_eight n classes (x ∷ xs) h = refl

pub returns : goal.returns
unfolding setup_bytes
returns c =
    let seven : length c.args.s.classes ≡ 7 = search rules in
    let long : length c.args.s.units ≡ 24 = search rules in
    let head = c.args.s.n ∷ c.args.s.classes in
    let eight : length head ≡ 8 = ap suc seven in
    let some : 0 < length c.args.w.now = omega (arith, c.requires) in
    let rest : length (filled 8 head c.args.w.now) - 8 ≡ 96 = rw (length-filled 8 head c.args.w.now eight (omega (arith, c.requires))) (omega (arith, c.requires)) in
    rw (c.copy_from_slice.ensures.after, first_eight c.args.s.n c.args.s.classes c.args.w.now some, rest, c.put_all_units.ensures)
    (filled_more 8 head c.args.w.now eight (joined (map units_bytes c.args.s.units)) 96
    ∙ filled_whole 104 (setup_bytes c.args.s) c.args.w.now (length_setup c.args.s seven long) c.requires)
