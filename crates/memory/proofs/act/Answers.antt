-- `memory::act` meets its contract: the step of one end alone.
-- Assumes nothing.
use native.Mathlib.Omega.{arith}
use mathlib.Core.Logic.{◌≢◌}
use Rattle.memory.proofs.PairLaws.{own_setup}
use Rattle.memory.proofs.StepLaws.{is_alone}
use Rattle.memory.proofs.act.Goals as goal
use Rattle.memory.proofs.act.Goals.{in_default-via-in-Some+in_default, in_default-via-in_default}

pub returns-in_default-clause-value : goal.returns-in_default-clause-value
returns-in_default-clause-value c =
    elim c.in_default.branch [
      | in_default-via-in-Some+in_default w ↦
          (let two : c.args.t.step ≢ 2 = λ z. grind (arith, c.action.ensures, w.in_default.is, z) in
          let three : c.args.t.step ≢ 3 = λ z. grind (arith, c.action.ensures, w.in_default.is, z) in
          let four : c.args.t.step ≢ 4 = λ z. grind (arith, c.action.ensures, w.in_default.is, z) in
          let five : c.args.t.step ≢ 5 = λ z. grind (arith, c.action.ensures, w.in_default.is, z) in
          is_alone c.args.links c.args.m.now c.requires.0 c.args.t c.requires.1 two three four five
          _ (own_setup c.args.links c.args.t.end (omega arith)) c.step_end.new.m _ c.step_end.ensures.value c.step_end.ensures.m_len)
      | in_default-via-in_default w ↦
          (let two : c.args.t.step ≢ 2 = λ z. grind (arith, c.action.ensures, w.in_default.is, z) in
          let three : c.args.t.step ≢ 3 = λ z. grind (arith, c.action.ensures, w.in_default.is, z) in
          let four : c.args.t.step ≢ 4 = λ z. grind (arith, c.action.ensures, w.in_default.is, z) in
          let five : c.args.t.step ≢ 5 = λ z. grind (arith, c.action.ensures, w.in_default.is, z) in
          is_alone c.args.links c.args.m.now c.requires.0 c.args.t c.requires.1 two three four five
          _ (own_setup c.args.links c.args.t.end (omega arith)) c.step_end.new.m _ c.step_end.ensures.value c.step_end.ensures.m_len)
    ]
