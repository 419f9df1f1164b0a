-- `receiver::Receiver::first_marked` meets its contract: the place that the chain finds.
-- Assumes nothing.
use Rattle.std.proofs.Common.{rules, tests}
use Rattle.std.specs.Prelude.{◌≡◌, position}
use Rattle.std.proofs.lemmas.Iterator.{YieldsList-from_slice}
use Rattle.std.proofs.lemmas.Iterator.Search.{position_from_yields_List}
use Rattle.store.proofs.Chains.{std_position}
use Rattle.receiver.specs.Receiver.{is_marked}
use Rattle.receiver.proofs.Receiver.first_marked.Goals as goal

pub returns : goal.returns
returns c =
    let e : c.position.result ≡ position is_marked c.args.self.rooms =
    position_from_yields_List is_marked _ _ c.position.result c.position.ensures.ran (YieldsList-from_slice c.args.self.rooms (cc)) (λ x b q k. search (rules, tests)) in
    rw e (std_position is_marked c.args.self.rooms)
