-- `sender::credits_for` meets its contract: the closure makes the credit of each slot.
-- Assumes nothing.
use Rattle.std.proofs.Common.{rules}
use native.Mathlib.Omega.{arith}
use Prim.Native.Nat.{◌+◌}
use mathlib.Core.Path.{◌≡◌, ap, sym, ◌∙◌}
use lib.ListN.{length, drop, get_or, length-drop}
use lib.Seq.{get_or-drop}
use Rattle.basics.proofs.Made.{made-map}
use Rattle.setup.specs.Setup.{no_units}
use Rattle.sender.specs.Sender.{credit_of}
use Rattle.sender.proofs.credits_for.Goals as goal

pub returns : goal.returns
returns c =
    let units : length c.args.link.units ≡ 24 = search rules in
    let long : length (drop 12 c.args.link.units) ≡ 12 = rw length-drop (omega (arith, units)) in
    made-map c.from_fn.ensures.items credit_of (drop 12 c.args.link.units) no_units long
    (λ i y q l k.
    let s : (q ≡ _) × (y ≡ credit_of (get_or c.args.link.units (12 + i) no_units)) = search rules in
    (s.0, s.1 ∙ ap credit_of (sym (get_or-drop 12 c.args.link.units i no_units))))
