-- `store::Packets::data_of` meets its contract: the sum that the chain makes.
-- Assumes nothing.
use Rattle.std.proofs.Common.{rules, tests, ap, ◌∙◌}
use Rattle.std.specs.Prelude.{◌≡◌, sum_by, filter}
use Rattle.std.proofs.lemmas.Iterator.{YieldsList-from_slice, YieldsList-from_map}
use Rattle.std.proofs.lemmas.Iterator.Consumers.{YieldsList-from_filter, sum_by_from_yields_List}
use Rattle.std.specs.Iterator.Adapters.{filter_callee}
use Rattle.store.specs.Store.{is_of}
use Rattle.packets.specs.Packets.{data_units, need_of}
use Rattle.store.proofs.Chains.{std_filter, std_sum}
use Rattle.store.proofs.Packets.data_of.Goals as goal

pub returns : goal.returns
unfolding need_of
returns c =
    let e : c.sum.result ≡ sum_by data_units (filter (is_of c.args.c) c.held.result.now) =
    sum_by_from_yields_List data_units _ _ _ c.sum.ensures.ran
    (YieldsList-from_map _ data_units
    (YieldsList-from_filter _ (is_of c.args.c) (YieldsList-from_slice c.held.result.now cc) (ap filter_callee c.map.ensures.source ∙ c.filter.ensures.closure) (λ x b q k. search (rules, tests)))
    c.map.ensures.closure (λ x r q k. search (rules, tests))) in
    e ∙ rw (c.held.ensures.value, std_filter) (std_sum data_units _)
