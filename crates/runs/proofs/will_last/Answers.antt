-- `runs::will_last` meets its contract: it does not matter what would stand past the second end.
-- Assumes nothing.
use Rattle.std.proofs.Common.{◌≡◌, Bool, true, ◌&&◌, eqb, sym, ◌∙◌, List, length, get_or, arith, rules}
use Rattle.basics.proofs.Places.{get_or_any}
use Rattle.setup.specs.Setup.{blank_setup}
use Rattle.ends.specs.declared.End.{End}
use Rattle.ends.specs.Ends.{end_of}
use Rattle.runs.specs.Kept.{will_last}
use Rattle.runs.proofs.will_last.Goals as goal

any : (b : Bool) (es : List End) (d e : End) → length es ≡ 2
    → (b && eqb (get_or es 0 d).setup.n (get_or es 1 d).setup.n) ≡ (b && eqb (get_or es 0 e).setup.n (get_or es 1 e).setup.n)
any b es d e h = rw (get_or_any es 0 d e (omega arith), get_or_any es 1 d e (omega arith))

pub returns-then-in_shape : goal.returns-then-in_shape
unfolding will_last
returns-then-in_shape c =
    let long : length c.args.p.ends ≡ 2 = search rules in
    rw (sym c.in_shape.ensures ∙ c.if-in_shape.true) (any true c.args.p.ends _ (end_of blank_setup) long)

pub returns-else-in_shape : goal.returns-else-in_shape
unfolding will_last
returns-else-in_shape c = rw (sym c.in_shape.ensures ∙ c.if-in_shape.false) c.if-in_shape.false
