-- `runs::run_asked` meets its contract: the invariant: the steps passed were run, and the list holds their answers and details.
-- Assumes nothing.
use Rattle.std.proofs.Common.{◌≡◌, ◌/◌, length, refl, ◌∙◌, arith}
use Rattle.script.specs.Script.{steps_in}
use Rattle.basics.specs.Parts.{cut}
use Rattle.runs.specs.Runs.{answers_of, run_of}
use Rattle.runs.proofs.Listed.{step_there, filled_none, turn}
use Rattle.runs.proofs.run_asked.Goals as goal
use Rattle.runs.proofs.run_asked.Goals.{in-Ok, in-Err}

pub loop-i-init : goal.loop-i-init
unfolding steps_in cut run_of answers_of
loop-i-init c = (refl, refl, filled_none c.args.out.now)

pub loop-i-preserved : goal.loop-i-preserved
loop-i-preserved c =
    let there = step_there c.args.l.now c.loop-i.i (omega arith) in
    let next = turn c.args.r c.args.l.now c.args.out.now c.loop-i.out c.loop-i.i _ _ _ c.loop-i.invariant.1 c.loop-i.invariant.2 (c.step_from.ensures ∙ there) c.advance.ensures in
    elim c.match-advance.branch [
      | in-Ok w ↦
          (let made = rw w.in-Ok.is at next in
          (rw (w.out-is, w.note.ensures) made.0, w.x-is ∙ made.1, rw (w.out-is, w.note.ensures) made.2))
      | in-Err w ↦
          (let refused = rw w.in-Err.is at next in
          (rw (w.out-is, w.note-in-Err.ensures, w.number.ensures) refused.0, w.x-is ∙ refused.1, rw (w.out-is, w.note-in-Err.ensures, w.number.ensures) refused.2))
    ]

pub returns : goal.returns
returns c =
    let e : c.loop-i.i ≡ length c.args.l.now / 6 = omega arith in
    (rw e at c.loop-i.invariant.1, rw e at c.loop-i.invariant.2)
