-- `counters::Wrapped::allows` meets its contract: the first difference is below the range, so it is stored as it is.
-- Assumes nothing.
use Rattle.std.proofs.Common.{rules}
use Rattle.counters.specs.Wrapped.{gate}
use Rattle.counters.proofs.Wrap.{minus_below}
use Rattle.counters.proofs.Wrapped.allows.Goals as goal

pub returns : goal.returns
unfolding gate
returns g c =
    let kept = g.met.Self.Wrapped.kept _ (minus_below _ g.met.Self.Wrapped.positive (g.Self.Wrapped.stored c.args.self) (g.Self.Wrapped.stored c.args.consumed)) in
    search rules
