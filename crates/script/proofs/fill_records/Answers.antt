-- `script::fill_records` meets its contract: each part is the bytes of the step that its numbers say.
-- Assumes nothing.
use Rattle.std.proofs.Common.{rules, ℕ, ◌<◌, ◌*◌, ◌∙◌, ◌++◌, sym, ap, drop}
use Rattle.basics.specs.Parts.{part, joined, cut}
use Rattle.basics.proofs.Each.{first_at, first_map}
use Rattle.basics.proofs.ByIndex.{rows_by_index}
use Rattle.script.specs.Script.{steps_in}
use Rattle.script.specs.Step.{FitsBytes, in_form, record_bytes, step_of}
use Rattle.script.proofs.Form.{form_fits}
use Rattle.script.proofs.fill_records.Goals as goal

pub fill_parts-requires-clause-callable : goal.fill_parts-requires-clause-callable
unfolding steps_in
fill_parts-requires-clause-callable c =
    let all = sym (first_map in_form step_of (cut 6 c.args.count c.args.l.now)) ∙ c.requires.3 in
    let fit : (i : ℕ) → i < c.args.count → FitsBytes (step_of (part c.args.l.now (6 * i) 6)) = λ i h. form_fits (step_of (part c.args.l.now (6 * i) 6)) (first_at (λ x. in_form (step_of x)) 6 c.args.count c.args.l.now i all h) in
    λ i x h k. let f = fit i h in search rules

pub returns : goal.returns
unfolding steps_in
returns c =
    c.fill_parts.ensures (λ i. record_bytes (step_of (part c.args.l.now (6 * i) 6))) (λ i x y h k p. search rules)
    ∙ ap (λ r. joined r ++ drop (12 * c.args.count) c.args.w.now) (sym (rows_by_index step_of record_bytes 6 c.args.l.now c.args.count))
