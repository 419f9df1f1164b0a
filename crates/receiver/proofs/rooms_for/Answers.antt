-- `receiver::rooms_for` meets its contract: the closure makes the room of each slot.
-- Assumes nothing.
use Rattle.std.proofs.Common.{rules}
use native.Mathlib.Omega.{arith}
use mathlib.Core.Path.{◌≡◌, ap, sym, ◌∙◌}
use lib.ListN.{length, take, get_or}
use lib.Seq.{get_or-take, length-take-le}
use Rattle.basics.proofs.Made.{made-map}
use Rattle.setup.specs.Setup.{no_units}
use Rattle.receiver.specs.Receiver.{room_for}
use Rattle.receiver.proofs.rooms_for.Goals as goal

pub returns : goal.returns
returns c =
    let long : length c.args.link.units ≡ 24 = search rules in
    made-map c.from_fn.ensures.items room_for (take 12 c.args.link.units) no_units (length-take-le 12 c.args.link.units (omega (arith, long)))
    (λ i y q l k.
    let s : (q ≡ _) × (y ≡ room_for (get_or c.args.link.units i no_units)) = search rules in
    (s.0, s.1 ∙ ap room_for (sym (get_or-take 12 c.args.link.units i no_units l))))
