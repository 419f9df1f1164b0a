-- `store::Packets::count_of` meets its contract: the count that the chain makes.
-- Assumes nothing.
use Rattle.std.proofs.Common.{rules, ◌∙◌}
use Rattle.std.proofs.iter.runs.Made.{chains}
use Rattle.std.specs.Prelude.{◌≡◌, count_by}
use Rattle.store.specs.Store.{held, is_of}
use Rattle.store.proofs.Chains.{std_count}
use Rattle.store.proofs.Packets.count_of.Goals as goal

pub returns : goal.returns
returns c =
    let e : c.count.result ≡ count_by (is_of c.args.c) (held c.args.self) = search (rules, chains) in
    e ∙ std_count (is_of c.args.c) (held c.args.self)
