-- `loads::all_in` meets its contract: each call reads its word.
-- Assumes nothing.
use Rattle.std.proofs.Common.{rules}
use native.Mathlib.Omega.{arith}
use mathlib.Core.Path.{◌≡◌, sym, ◌∙◌}
use mathlib.Core.List.{map}
use lib.ListN.{get_or, length-map}
use Rattle.words.proofs.Patched.{get_or_mapped}
use Rattle.memory.proofs.LoadLaws.{made_of}
use Rattle.memory.proofs.loads.all_in.Goals as goal

pub returns : goal.returns
returns g c =
    let f = g.T.Word.meaning in
    let m = c.args.words.now in
    made_of _ _ _ (map f m) (f 0) _ (rw length-map c.requires) c.from_fn.ensures.items
    (λ i h y q k. let e : y ≡ f (get_or m i 0) = search rules in (search rules, e ∙ sym (get_or_mapped f m i 0 (f 0) (omega (arith, c.requires)))))
