-- A step on its part, put back, is the step of the whole end.
-- Assumes nothing.
use Rattle.std.specs.Prelude.{if◌then◌else◌}
use mathlib.Core.Path.{◌≡◌, refl}
use mathlib.Core.Bool.{Bool, true, false}
use lib.Dec.{eqb}
use Rattle.frames.specs.declared.Frame.{Frame}
use Rattle.sender.specs.Sender as S
use Rattle.sender.specs.Sender.{with_replay, begun, told}
use Rattle.receiver.specs.Receiver.{with_reply}
use Rattle.delivery.specs.Delivery.{damaged}
use Rattle.ends.specs.declared.End.{End}
use Rattle.ends.specs.Ends.{end, by_sender, timer_of, damage_of}
use Rattle.host.specs.Host.{said_of}
use Rattle.host.specs.Parts.{Timed, damage_on, timer_on}

by_test : (e : End) (none : Bool)
    → let x = if none then told e.sender 23 else told (with_replay e.sender (begun e.sender.replay)) 0 in
    let y : Timed = if none then record { answer = 23; replay = e.sender.replay } else record { answer = 0; replay = begun e.sender.replay } in
    (y.answer ≡ (by_sender e x).answer) × (end e.setup (with_replay e.sender y.replay) e.receiver ≡ (by_sender e x).end)
by_test e true = (refl, refl)
by_test e false = (refl, refl)

pub timer_so : (e : End)
    → let y = timer_on e.sender.buffer.len e.sender.replay in
    (y.answer ≡ (timer_of e).answer) × (end e.setup (with_replay e.sender y.replay) e.receiver ≡ (timer_of e).end)
unfolding S.timer_of
timer_so e = by_test e (eqb e.sender.buffer.len 0)

pub damage_so : (e : End) (f : Frame)
    → let y = damage_on e.receiver.reply f in
    (y.said ≡ said_of (damage_of e f)) × (end e.setup e.sender (with_reply e.receiver y.reply) ≡ (damage_of e f).end)
unfolding damage_of damaged
damage_so e (Frame.Packet number p) = (refl, refl)
damage_so e (Frame.Message m) = (refl, refl)
