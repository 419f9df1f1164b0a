-- The run of a script's steps leads to the pair that the history speaks of. Assumes nothing.
use mathlib.Core.Path.{◌≡◌, refl}
use mathlib.Core.List.{List, [], ◌∷◌}
use Rattle.script.specs.declared.Step.{Step}
use Rattle.runs.specs.declared.Run.{Run}
use Rattle.runs.specs.Runs.{advance_of, run_of}
use Rattle.rows.specs.Rows.{after}

pub run_leads : (r : Run) (ts : List Step) → (run_of r ts).pair ≡ after r.pair ts
unfolding run_of advance_of after
run_leads r [] = refl
run_leads r (t ∷ ts) = run_leads (advance_of r t).run ts
