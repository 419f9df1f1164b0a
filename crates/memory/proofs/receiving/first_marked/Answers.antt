-- `memory::receiving::first_marked` meets its contract: the first word that is marked is that of the first room that is.
-- Assumes nothing.
use Rattle.std.proofs.Common.{rules, tests, ◌∙◌}
use Rattle.std.specs.Prelude.{◌≡◌, position}
use Rattle.std.proofs.lemmas.Iterator.{YieldsList-from_slice}
use Rattle.std.proofs.lemmas.Iterator.Search.{position_from_yields_List}
use Rattle.basics.specs.Parts.{part}
use Rattle.receiver.specs.Receiver.{is_marked}
use Rattle.setup.specs.Setup.{per_end}
use Rattle.words.specs.Words.{room_in}
use Rattle.words.specs.Memory.{rooms_at, receiver_in}
use Rattle.memory.proofs.ListsLaws.{position_mapped}
use Rattle.memory.proofs.receiving.first_marked.Goals as goal

pub returns : goal.returns
unfolding receiver_in
returns c =
    let e : c.position.result ≡ position (λ w. is_marked (room_in w)) (part c.args.r.now rooms_at per_end) =
    position_from_yields_List (λ w. is_marked (room_in w)) _ _ c.position.result c.position.ensures.ran (YieldsList-from_slice _ c.iter.ensures.rest)
    (λ x b q k. search (rules, tests)) in
    e ∙ position_mapped is_marked room_in (part c.args.r.now rooms_at per_end)
