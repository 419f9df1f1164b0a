-- `script::fill_script` meets its contract: the records, then the setup's part, then the trailer's.
-- Assumes nothing.
use Rattle.std.proofs.Common.{rules}
use native.Mathlib.Omega.{arith}
use Prim.Native.Nat.{◌+◌, ◌-◌, ◌*◌, ◌≤◌}
use mathlib.Core.Path.{◌≡◌, ◌∙◌}
use lib.ListN.{drop, length, length-drop}
use lib.Seq.{length-take-le}
use Rattle.setup.proofs.Answers.{setup_written}
use Rattle.setup.proofs.Rows.{length_setup}
use Rattle.script.specs.Script.{steps_in}
use Rattle.script.proofs.Writer.{length-steps, setup_put, trailer_put}
use Rattle.script.proofs.fill_script.Goals as goal

pub returns : goal.returns
returns c =
    let seven : length c.args.s.classes ≡ 7 = search rules in
    let long : length c.args.s.units ≡ 24 = search rules in
    let size = length_setup c.args.s seven long in
    let steps = length-steps c.args.l.now c.args.count in
    let wide : 12 * c.args.count + 104 - 12 * c.args.count ≡ 104 = omega arith in
    let last : 12 * c.args.count + 104 + 12 - (12 * c.args.count + 104) ≡ 12 = omega arith in
    let rest : 104 ≤ length (drop (12 * c.args.count) c.fill_records.new.w) = rw length-drop (omega (arith, c.fill_records.auto.w, c.requires.2)) in
    let part = length-take-le 104 (drop (12 * c.args.count) c.fill_records.new.w) rest in
    let setup = rw wide at c.write_setup.ensures.1 ∙ setup_written c.args.s _ c.requires.4 part in
    let ts = steps_in c.args.l.now c.args.count in
    rw (last, wide, c.put_trailer.ensures, setup, c.fill_records.ensures, setup_put c.args.s ts c.args.count c.args.w.now steps size)
    (trailer_put c.args.s ts c.args.count c.args.w.now steps size)
