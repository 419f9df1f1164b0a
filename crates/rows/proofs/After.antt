-- Laws of the pair after some steps: lists of steps put together, what every step keeps, and two ends and two lines.
-- Assumes nothing.
use mathlib.Core.Path.{◌≡◌, refl, ◌∙◌}
use mathlib.Core.List.{List, [], ◌∷◌, ◌++◌}
use Rattle.script.specs.declared.Step.{Step}
use Rattle.pairs.specs.declared.Pair.{Pair}
use Rattle.pairs.specs.Pairs.{Done}
use Rattle.pairs.specs.Steps.{step_of}
use Rattle.rows.specs.Rows.{after}
use Rattle.rows.specs.Outcome.{Two, Outcome, refuses, does}
use Rattle.rows.proofs.Outcomes.{step_outcome}

pub after-append : (p : Pair) (a b : List Step) → after p (a ++ b) ≡ after (after p a) b
unfolding after
after-append p [] b = refl
after-append p (t ∷ a) b = after-append (step_of p t).pair a b

-- what every step keeps
pub after-keeps : (P : Pair → Type 0) → ((p : Pair) (t : Step) → P p → P (step_of p t).pair) → (p : Pair) (ts : List Step) → P p → P (after p ts)
unfolding after
after-keeps P k p [] h = h
after-keeps P k p (t ∷ ts) h = after-keeps P k (step_of p t).pair ts (k p t h)

-- ---- two ends and two lines

two_by : {p : Pair} {d : Done} → Outcome p d → Two p → Two d.pair
two_by (refuses n) two = two
two_by (does ends lines) two = (ends ∙ two.0, lines ∙ two.1)

pub step-two : (p : Pair) (t : Step) → Two p → Two (step_of p t).pair
step-two p t two = two_by (step_outcome p t) two
