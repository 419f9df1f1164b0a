-- The steps of a single end whose state is handed in from outside: first of all answer 10, then the step.
-- Assumes nothing.
use Rattle.std.specs.Prelude.{ℕ, if◌then◌else◌, Some, None}
use Rattle.packets.specs.declared.Packet.{Packet}
use Rattle.frames.specs.declared.Frame.{Frame}
use Rattle.ends.specs.declared.End.{End}
use Rattle.ends.specs.Ends.{Stepped}
use Rattle.ends.specs.Sends.{Sent}
use Rattle.ends.specs.Ends.{stepped, submit_of, arrive_of, damage_of, take_at, timer_of, refresh_of}
use Rattle.ends.specs.Sends.{sent, send_of}
use Rattle.shape.specs.Shape.{in_shape}

-- 10: state handed in out of shape; it is handed back as it came
unfoldable pub guarded : End → Stepped → Stepped
guarded e step = if in_shape e then step else stepped e 10 0

unfoldable pub guarded_sent : End → Sent → Sent
guarded_sent e step = if in_shape e then step else sent e None 10 0

-- ---- the steps

abbrev pub checked_submit : End → Packet → Stepped
checked_submit e p = guarded e (submit_of e p)

abbrev pub checked_send : End → Sent
checked_send e = guarded_sent e (send_of e)

abbrev pub checked_arrive : End → Frame → Stepped
checked_arrive e f = guarded e (arrive_of e f)

abbrev pub checked_damage : End → Frame → Stepped
checked_damage e f = guarded e (damage_of e f)

abbrev pub checked_take : End → ℕ → ℕ → Stepped
checked_take e channel category = guarded e (take_at e channel category)

abbrev pub checked_timer : End → Stepped
checked_timer e = guarded e (timer_of e)

abbrev pub checked_refresh : End → Stepped
checked_refresh e = guarded e (refresh_of e)
