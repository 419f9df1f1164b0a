-- `Setup::in_range` meets its contract.
-- Assumes nothing.
use Rattle.std.proofs.Common.{rules, refl, tests, ◌≡◌, ◌∙◌}
use Rattle.std.proofs.lemmas.Iterator.{YieldsList-from_range}
use Rattle.std.proofs.lemmas.Iterator.Search.{all_from_yields_List}
use Rattle.basics.specs.Each.{each}
use Rattle.basics.proofs.Each.{each_range}
use Rattle.setup.specs.Setup.{channels_fit, in_range, within}
use Rattle.setup.proofs.Setup.in_range.Goals as goal
use Rattle.setup.proofs.Setup.in_range.Goals.{then-contains, else-contains}

pub returns-then-classes_fit : goal.returns-then-classes_fit
unfolding in_range
returns-then-classes_fit c =
    let few : c.contains.result ≡ within 1 4 c.args.self.n = search (rules, tests) in
    let ends : c.all.result ≡ each 2 (λ end. channels_fit c.args.self end)
    = all_from_yields_List (λ end. channels_fit c.args.self end) _ _ c.all.result c.all.ensures.ran (YieldsList-from_range 0 2 2 refl refl) (λ x b q k. search (rules, tests)) ∙ each_range 2 _ in
    elim c.if-contains.branch [
      | then-contains w ↦ ends ∙ (simp (← few, w.if-contains.true, ← w.classes_fit.ensures, ← w.value-is, c.if-classes_fit.true))
      | else-contains w ↦ cc
    ]

pub returns-else-classes_fit : goal.returns-else-classes_fit
unfolding in_range
returns-else-classes_fit c =
    let few : c.contains.result ≡ within 1 4 c.args.self.n = search (rules, tests) in
    elim c.if-contains.branch [
      | then-contains w ↦ simp (← few, w.if-contains.true, ← w.classes_fit.ensures, ← w.value-is, c.if-classes_fit.false)
      | else-contains w ↦ simp (← few, w.if-contains.false, w.value-is)
    ]
