-- `setup::put_all_units` meets its contract: each part is the bytes of its units.
-- Assumes nothing.
use Rattle.std.proofs.Common.{rules, ◌≡◌, ◌∙◌, ◌++◌, length, get_or, drop, sym, ap, map}
use Rattle.basics.specs.Parts.{joined}
use Rattle.basics.proofs.ByIndex.{written_by_index}
use Rattle.basics.proofs.Parts.{filled_whole}
use Rattle.setup.specs.Setup.{no_units}
use Rattle.setup.specs.Bytes.{units_bytes}
use Rattle.setup.proofs.Rows.{length-all}
use Rattle.setup.proofs.put_all_units.Goals as goal

pub returns : goal.returns
returns c =
    let long : length c.args.units ≡ 24 = search rules in
    c.fill_parts.ensures (λ i. units_bytes (get_or c.args.units i no_units)) (λ i x y h k p. search rules)
    ∙ ap (λ r. joined r ++ drop 96 c.args.w.now) (sym (written_by_index units_bytes c.args.units 24 no_units long))
    ∙ filled_whole 96 (joined (map units_bytes c.args.units)) c.args.w.now (length-all c.args.units long) c.requires
