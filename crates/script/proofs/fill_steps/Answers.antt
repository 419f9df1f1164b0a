-- `script::fill_steps` meets its contract: each part is the numbers of the step that its record says.
-- Assumes nothing.
use Rattle.std.proofs.Common.{rules, ◌*◌, ◌∙◌, ◌++◌, sym, ap, drop}
use Rattle.basics.specs.Parts.{part, joined}
use Rattle.basics.proofs.ByIndex.{rows_by_index}
use Rattle.script.specs.Step.{numbers_of, step_at}
use Rattle.script.proofs.fill_steps.Goals as goal

pub returns : goal.returns
returns c =
    c.fill_parts.ensures (λ i. numbers_of (step_at (part c.args.b.now (12 * i) 12))) (λ i x y h k p. search rules)
    ∙ ap (λ r. joined r ++ drop (6 * c.args.count) c.args.l.now) (sym (rows_by_index step_at numbers_of 12 c.args.b.now c.args.count))
