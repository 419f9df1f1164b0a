-- Timer refuses where nothing is unacknowledged, or a replay begins.
-- Assumes nothing.
use mathlib.Core.Path.{◌≡◌, ap}
use mathlib.Core.Logic.{◌⊎◌, inl, inr, ◌≢◌}
use borrow.Author.Tests.{eqb-true, eqb-false}
use lib.Dec.{eqb}
use Rattle.basics.proofs.Each.{by_bool}
use Rattle.sender.specs.Sender.{with_replay, begun}
use Rattle.sender.proofs.Changes.{timer-refused, timer_starts}
use Rattle.ends.specs.declared.End.{End}
use Rattle.ends.specs.Ends.{end, stepped, by_sender, timer_of}

pub timer_view : (e : End)
    → (timer_of e ≡ stepped e 23 0)
    ⊎ ((e.sender.buffer.len ≢ 0)
    × (timer_of e ≡ stepped (end e.setup (with_replay e.sender (begun e.sender.replay)) e.receiver) 0 0))
timer_view e =
    by_bool (eqb e.sender.buffer.len 0)
    (λ t. inl (ap (by_sender e) (timer-refused e.sender (eqb-true e.sender.buffer.len 0 t))))
    (λ t.
    let some = eqb-false e.sender.buffer.len 0 t in
    inr (some, ap (by_sender e) (timer_starts e.sender some)))
