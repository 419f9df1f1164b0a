-- Document 01: "Refused steps change nothing", and "A refusal's detail is 0".
-- Assumes nothing.
use mathlib.Core.Path.{◌≡◌, refl}
use mathlib.Core.Logic.{◌≢◌}
use Rattle.script.specs.declared.Step.{Step}
use Rattle.pairs.specs.declared.Pair.{Pair}
use Rattle.pairs.specs.Pairs.{Done}
use Rattle.pairs.specs.Pairs.{done}
use Rattle.pairs.specs.Steps.{step_of}
use Rattle.rows.specs.Outcome.{Outcome, refuses, does}
use Rattle.rows.proofs.Outcomes.{step_outcome}

unchanged : {p : Pair} {d : Done} → Outcome p d → d.answer ≢ 0 → d ≡ done p d.answer 0
unchanged (refuses h) n = refl
unchanged (does ends lines) n = absurd (n refl)

module _ (p : Pair) (t : Step) (no : (step_of p t).answer ≢ 0) where
  pub refused-step : step_of p t ≡ done p (step_of p t).answer 0
  refused-step = unchanged (step_outcome p t) no

  pub refused-same : (step_of p t).pair ≡ p
  refused-same = rw refused-step

  pub refused-detail : (step_of p t).detail ≡ 0
  refused-detail = rw refused-step
