-- One line of the link: what is on it, one frame more, its oldest frame and what is left without it.
-- Assumes nothing.
use Rattle.std.specs.Prelude.{ℕ, ◌+◌, ◌-◌, Bool, ◌&&◌, List, leb, ltb, eqb, take, drop, set, get_or, replicate, if◌then◌else◌, Some, None, Option}
use Rattle.std.proofs.Math.Seq.{paste}
use Rattle.counters.specs.Counters.{seq}
use Rattle.frames.specs.declared.Frame.{Frame}
use Rattle.line.specs.declared.Slot.{Slot}
use Rattle.line.specs.declared.Line.{Line}

abbrev pub capacity : ℕ
capacity = 16

abbrev pub line : List Slot → ℕ → Line
line slots len = record { slots = slots; len = len }

abbrev pub slot : Frame → Slot
slot f = record { frame = f }

-- what stands past the end
abbrev pub blank : Slot
blank = slot (Frame.Packet (seq 0) (record { kind = 0; class = 0; length = 0; ident = 0 }))

abbrev pub empty : Line
empty = line (replicate capacity blank) 0

-- what is on it
abbrev pub on_line : Line → List Slot
on_line l = take l.len l.slots

abbrev pub is_full : Line → Bool
is_full l = leb capacity l.len

-- with one more at its end; as it was where it is full
unfoldable pub put : Line → Frame → Line
put l f = if ltb l.len capacity then line (set l.slots l.len (slot f)) (l.len + 1) else l

-- its oldest frame
abbrev pub front_of : Line → Option Frame
front_of l = if eqb l.len 0 then None else Some (get_or l.slots 0 blank).frame

-- without its oldest, the later ones moved down; as it was where there is none
unfoldable pub rest_of : Line → Line
rest_of l =
    if leb 1 l.len && leb l.len capacity
    then line (paste l.slots 0 (drop 1 l.slots) (l.len - 1)) (l.len - 1)
    else l
