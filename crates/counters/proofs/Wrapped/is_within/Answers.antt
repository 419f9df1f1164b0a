-- `counters::Wrapped::is_within` meets its contract: the difference is below the range, so it is stored as it is.
-- Assumes nothing.
use Rattle.std.proofs.Common.{rules}
use Rattle.counters.specs.Wrapped.{within}
use Rattle.counters.proofs.Wrap.{minus_below}
use Rattle.counters.proofs.Wrapped.is_within.Goals as goal

pub returns : goal.returns
unfolding within
returns g c =
    let kept = g.met.Self.Wrapped.kept _ (minus_below _ g.met.Self.Wrapped.positive (g.Self.Wrapped.stored c.args.self) (g.Self.Wrapped.stored c.args.other)) in
    search rules
