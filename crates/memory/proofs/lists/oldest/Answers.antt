-- `memory::lists::oldest` meets its contract: the first word that passes is that of the first packet that does.
-- Assumes nothing.
use lib.ListN.{take}
use Rattle.std.proofs.Common.{rules, tests, ◌∙◌}
use Rattle.std.specs.Prelude.{◌≡◌, position}
use Rattle.std.proofs.lemmas.Iterator.{YieldsList-from_slice}
use Rattle.std.proofs.lemmas.Iterator.Search.{position_from_yields_List}
use Rattle.store.specs.Store.{is_of}
use Rattle.words.specs.Words.{packet_in}
use Rattle.memory.proofs.ListsLaws.{held_is, position_mapped}
use Rattle.memory.proofs.lists.oldest.Goals as goal

pub returns : goal.returns
returns c =
    let e : c.position.result ≡ position (λ w. is_of c.args.c (packet_in w)) (take c.size.result c.args.q.now) =
    position_from_yields_List (λ w. is_of c.args.c (packet_in w)) _ _ c.position.result c.position.ensures.ran (YieldsList-from_slice _ c.iter.ensures.rest)
    (λ x b q k. search (rules, tests)) in
    rw (held_is c.args.q.now c.requires c.size.result c.size.ensures.value) (e ∙ position_mapped (is_of c.args.c) packet_in (take c.size.result c.args.q.now))
