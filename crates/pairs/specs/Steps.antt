-- One step of the pair by its six fields, and the shape of a pair.
-- Assumes nothing.
use Rattle.std.specs.Prelude.{ℕ, Bool, ◌&&◌, not, List, leb, ltb, eqb, if◌then◌else◌}
use Rattle.basics.specs.Lists.{all}
use Rattle.packets.specs.declared.Packet.{Packet}
use Rattle.frames.specs.Frames.{frame_answer}
use Rattle.line.specs.declared.Line.{Line}
use Rattle.line.specs.declared.Slot.{Slot}
use Rattle.line.specs.Line.{capacity, on_line}
use Rattle.script.specs.declared.Step.{Step}
use Rattle.script.specs.Step.{formed}
use Rattle.ends.specs.declared.End.{End}
use Rattle.ends.specs.Ends.{submit_of, arrive_of, damage_of, take_at, timer_of, refresh_of}
use Rattle.shape.specs.Shape.{in_shape}
use Rattle.pairs.specs.declared.Pair.{Pair}
use Rattle.pairs.specs.Pairs.{Done}
use Rattle.pairs.specs.Pairs.{done, end_at, line_at, by_end, send_at, reach_at, lose_at}

-- the packet of a Submit
abbrev pub packet_of : Step → Packet
packet_of t = record { kind = t.kind; class = t.class; length = t.length; ident = t.ident }

-- 1 Submit, 2 Send, 3 Arrive, 4 Damage, 5 Lose, 6 Take, 7 Timer, 8 Refresh;
-- for Take, class is the channel and kind the category; a step in form has no other step number
unfoldable pub act : Pair → Step → Done
act p t =
    if eqb t.step 1 then by_end p t.end (submit_of (end_at p t.end) (packet_of t))
    else if eqb t.step 2 then send_at p t.end
    else if eqb t.step 3 then reach_at arrive_of p t.end
    else if eqb t.step 4 then reach_at damage_of p t.end
    else if eqb t.step 5 then lose_at p t.end
    else if eqb t.step 6 then by_end p t.end (take_at (end_at p t.end) t.class t.kind)
    else if eqb t.step 7 then by_end p t.end (timer_of (end_at p t.end))
    else by_end p t.end (refresh_of (end_at p t.end))

-- ---- 10: the pair is out of shape: an end is, or a line is over its bound or has a frame that 27 would refuse

abbrev pub slot_fits : ℕ → Slot → Bool
slot_fits n s = eqb (frame_answer n s.frame) 0

unfoldable pub line_fits : ℕ → Line → Bool
line_fits n l = leb l.len capacity && all (slot_fits n) (on_line l)

unfoldable pub pair_in_shape : Pair → Bool
pair_in_shape p =
    in_shape (end_at p 0)
    && (in_shape (end_at p 1)
    && (line_fits (end_at p 0).setup.n (line_at p 0)
    && line_fits (end_at p 1).setup.n (line_at p 1)))

-- 10; 11: end not 0 or 1; 6: a step out of form; then the step itself
unfoldable pub step_of : Pair → Step → Done
step_of p t =
    if not (pair_in_shape p) then done p 10 0
    else if ltb 1 t.end then done p 11 0
    else if not (formed t) then done p 6 0
    else act p t
