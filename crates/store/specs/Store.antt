-- A bounded list of packets, oldest first: what it holds, one more, some taken out, and those of a category.
-- Assumes nothing.
use Rattle.std.specs.Prelude.{ℕ, ◌+◌, ◌-◌, Bool, ◌&&◌, List, leb, ltb, take, drop, set, get_or, replicate, if◌then◌else◌}
use Rattle.std.proofs.Math.Seq.{paste}
use Rattle.basics.specs.Lists.{filter}
use Rattle.packets.specs.declared.Packet.{Packet}
use Rattle.packets.specs.declared.Category.{Category}
use Rattle.packets.specs.Packets.{category_of, same}
use Rattle.store.specs.declared.Packets.{Packets}

abbrev pub capacity : ℕ
capacity = 48

abbrev pub packets : List Packet → ℕ → Packets
packets items len = record { items = items; len = len }

-- what it holds
abbrev pub held : Packets → List Packet
held q = take q.len q.items

-- what stands past the end
abbrev pub no_packet : Packet
no_packet = record { kind = 0; class = 0; length = 0; ident = 0 }

abbrev pub empty : Packets
empty = packets (replicate capacity no_packet) 0

-- the packet at place i
abbrev pub at : Packets → ℕ → Packet
at q i = get_or (held q) i no_packet

-- with one more at the end; as it was where it is full
unfoldable pub pushed : Packets → Packet → Packets
pushed q p = if ltb q.len capacity then packets (set q.items q.len p) (q.len + 1) else q

-- without those from place a up to place b, the later ones moved down; as it was where it does not hold so many
unfoldable pub without : Packets → ℕ → ℕ → Packets
without q a b =
    if leb a b && leb b q.len && leb q.len capacity
    then packets (paste q.items a (drop b q.items) (q.len - b)) (q.len - (b - a))
    else q

-- without the packet at place i
abbrev pub removed : Packets → ℕ → Packets
removed q i = without q i (i + 1)

-- without its k oldest
abbrev pub released : Packets → ℕ → Packets
released q k = without q 0 k

-- ---- by category

abbrev pub is_of : Category → Packet → Bool
is_of c p = same (category_of p) c

abbrev pub of_category : Category → List Packet → List Packet
of_category c ps = filter (is_of c) ps
