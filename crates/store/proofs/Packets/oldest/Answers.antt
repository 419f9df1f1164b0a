-- `store::Packets::oldest` meets its contract: the place that the chain finds.
-- Assumes nothing.
use Rattle.std.proofs.Common.{rules, tests}
use Rattle.std.specs.Prelude.{◌≡◌, position}
use Rattle.std.proofs.lemmas.Iterator.{YieldsList-from_slice}
use Rattle.std.proofs.lemmas.Iterator.Search.{position_from_yields_List}
use Rattle.store.specs.Store.{held, is_of}
use Rattle.store.proofs.Chains.{std_position}
use Rattle.store.proofs.Packets.oldest.Goals as goal

pub returns : goal.returns
returns c =
    let e : c.position.result ≡ position (is_of c.args.c) c.held.result.now =
    position_from_yields_List (is_of c.args.c) _ _ c.position.result c.position.ensures.ran (YieldsList-from_slice _ c.iter.ensures.rest) (λ x b q k. search (rules, tests)) in
    rw e (rw c.held.ensures.value (std_position (is_of c.args.c) (held c.args.self)))
