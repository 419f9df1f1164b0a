-- `runs::run_words` meets its contract: the invariant: the pair in the memory is that of the run so far and stays in shape, and the list holds the answers.
-- Assumes nothing.
use Rattle.std.proofs.Common.{◌≡◌, ◌/◌, length, refl, ◌∙◌, arith, eq-eqb}
use Rattle.basics.specs.Parts.{cut}
use Rattle.script.specs.Script.{steps_in}
use Rattle.words.specs.Memory.{pair_words}
use Rattle.runs.specs.Kept.{run_in}
use Rattle.runs.specs.Runs.{answers_of, run_of}
use Rattle.runs.proofs.Listed.{step_there, filled_none}
use Rattle.runs.proofs.Kept.{sound_in, kept_turn}
use Rattle.runs.proofs.run_words.Goals as goal

pub loop-i-init : goal.loop-i-init
unfolding steps_in cut run_of answers_of
loop-i-init c =
    (c.requires.0, refl, sound_in c.args.links c.args.m.now c.requires.0 c.requires.1, refl, filled_none c.args.out.now)

pub loop-i-preserved : goal.loop-i-preserved
loop-i-preserved c =
    let whole = eq-eqb (length c.loop-i.m) pair_words c.loop-i.invariant.0 in
    let next =
    kept_turn c.args.links c.loop-i.m c.step-outcome.new.m c.loop-i.c _ c.step-outcome.result c.loop-i.invariant.2 (rw whole at c.step-outcome.ensures.value)
    (rw whole at c.step-outcome.ensures.m_after) (run_in c.args.links c.args.m.now c.args.start) c.args.l.now c.args.out.now c.loop-i.out c.loop-i.i c.loop-i.invariant.3 c.loop-i.invariant.4
    (c.step_from-t.ensures ∙ step_there c.args.l.now c.loop-i.i (omega arith)) in (
      c.step-outcome.ensures.m_len_unchanged ∙ c.loop-i.invariant.0,
      rw (c.note.ensures, c.answer_of.ensures, c.unwrap_or.ensures) next.0,
      next.3,
      rw (c.after-c.ensures, c.is_ok-made.ensures.value) next.1,
      rw (c.note.ensures, c.answer_of.ensures, c.unwrap_or.ensures) next.2,
    )

pub returns : goal.returns
returns c =
    let e : c.loop-i.i ≡ length c.args.l.now / 6 = omega arith in
    record { result_after = rw e at c.loop-i.invariant.3; m_len = c.loop-i.invariant.0; out_after = rw e at c.loop-i.invariant.4 }
