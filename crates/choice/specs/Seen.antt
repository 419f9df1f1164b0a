-- What a walk along a channel keeps of the packets that it passed, and what it lets go after them.
-- Assumes nothing.
use Rattle.std.specs.Prelude.{Bool, true, false, ◌&&◌, not, List, [], ◌∷◌, get_or, set}
use Rattle.packets.specs.declared.Packet.{Packet}
use Rattle.packets.specs.declared.Category.{Category}
use Rattle.packets.specs.declared.Category.TheVariants.{Posted, NonPosted, Completion}
use Rattle.packets.specs.Packets.{number_of, need_of}
use Rattle.credits.specs.declared.Credit.{Credit}
use Rattle.credits.specs.Credits.{suffices}
use Rattle.choice.specs.declared.Seen.{Seen}
use Rattle.choice.specs.Choice.{none_of}

abbrev pub seen : List Bool → Seen
seen flags = record { flags = flags }

-- which categories these packets are of
unfoldable pub seen_in : List Packet → Seen
seen_in ps = seen (not (none_of Posted ps) ∷ not (none_of NonPosted ps) ∷ not (none_of Completion ps) ∷ [])

abbrev pub has_seen : Seen → Category → Bool
has_seen s c = get_or s.flags (number_of c) false

-- with one of category c
abbrev pub seeing : Seen → Category → Seen
seeing s c = seen (set s.flags (number_of c) true)

-- a packet of category c may go after these; for a posted one `has_seen` already says that no posted one was passed
abbrev pub may_go : Seen → Category → Credit → Packet → Bool
may_go s c credit p = not (has_seen s c) && suffices credit (need_of p) && not (has_seen s Posted)
