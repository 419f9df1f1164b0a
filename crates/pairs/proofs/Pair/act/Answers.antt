-- `pairs::Pair::act` meets its contract: Submit and Take, whose numbers fit their bytes.
-- Assumes nothing.
use native.Mathlib.Omega.{arith}
use mathlib.Core.Path.{◌≡◌, ap, sym, ◌∙◌}
use Rattle.pairs.specs.Pairs.{end_at, by_end}
use Rattle.pairs.proofs.Acts.{submits, takes}
use Rattle.pairs.proofs.Caps.{submit-capped, take-capped}
use Rattle.pairs.proofs.Pair.act.Goals as goal

pub returns-in-Some-Submit : goal.returns-in-Some-Submit
returns-in-Some-Submit c =
    let first : c.args.t.step ≡ 1 = grind (arith, c.action.ensures, c.in-Some-Submit.is) in
    c.by_end.ensures
    ∙ ap (λ x. by_end c.args.self c.args.t.end x) (rw (c.end-e.ensures, c.packet_of.ensures) at c.submit.ensures ∙ submit-capped c.args.t (end_at c.args.self c.args.t.end))
    ∙ submits c.args.self c.args.t first

pub returns-in-Some-Take : goal.returns-in-Some-Take
returns-in-Some-Take c =
    let sixth : c.args.t.step ≡ 6 = grind (arith, c.action.ensures, c.in-Some-Take.is) in
    c.by_end-in-Some-Take.ensures
    ∙ ap (λ x. by_end c.args.self c.args.t.end x)
    (rw (c.end-e.ensures, c.capped.ensures.0, c.capped-in-Some-Take.ensures.0) at c.take.ensures ∙ take-capped (end_at c.args.self c.args.t.end) c.args.t.class c.args.t.kind)
    ∙ takes c.args.self c.args.t sixth
