-- `loads::slots_in` meets its contract: each call reads its two words.
-- Assumes nothing.
use Rattle.std.proofs.Common.{rules}
use Prim.Native.Nat.{◌+◌, ◌*◌}
use mathlib.Core.Path.{◌≡◌, sym, ◌∙◌}
use mathlib.Core.List.{[], map}
use lib.ListN.{get_or}
use Rattle.basics.specs.Parts.{cut}
use Rattle.basics.proofs.Parts.{length-read}
use Rattle.line.specs.Line.{slot}
use Rattle.words.specs.Words.{frame_in}
use Rattle.words.specs.Memory.{line_places, slot_in}
use Rattle.words.proofs.Lists.{read_at}
use Rattle.memory.proofs.LoadLaws.{made_of, slot_read}
use Rattle.memory.proofs.loads.slots_in.Goals as goal

pub returns : goal.returns
returns c =
    let l = c.args.l.now in
    made_of _ _ _ (map slot_in (cut 2 line_places l)) (slot_in []) _ (length-read slot_in 2 line_places l) c.from_fn.ensures.items
    (λ i h y q k.
    let e : y ≡ slot (frame_in (get_or l (2 * i) 0) (get_or l (2 * i + 1) 0)) = search rules in
    (search rules, e ∙ slot_read l i ∙ sym (read_at slot_in 2 line_places l i (slot_in []) h)))
