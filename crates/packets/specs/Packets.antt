-- Packets: their kinds, what is refused of them (12, 13, 14) and the units that they cost.
-- Document 01, "Packets and their units", in its order. Assumes nothing.
use Rattle.std.specs.Prelude.{ℕ, ◌+◌, ◌*◌, ◌/◌, Bool, true, false, ◌&&◌, ◌||◌, not, List, [], ◌∷◌, leb, ltb, eqb, get_or, if◌then◌else◌, Some, None, Option}
use Rattle.basics.specs.Choice.{first_of}
use Rattle.basics.specs.Lists.{total}
use Rattle.counters.specs.Counters.{headers, datas, counts}
use Rattle.counters.specs.declared.Counts.{Counts}
use Rattle.packets.specs.declared.Category.{Category}
use Rattle.packets.specs.declared.Category.TheVariants.{Posted, NonPosted, Completion}
use Rattle.packets.specs.declared.Packet.{Packet}
use Rattle.packets.specs.declared.Rule.{Rule}

-- ---- the table of kinds

abbrev pub rule : Category → ℕ → ℕ → Bool → Rule
rule category least most payload = record { category = category; least = least; most = most; payload = payload }

-- category, least and greatest length, payload
abbrev pub rules : List Rule
rules =
    rule NonPosted 1 1024 false  -- 0 memory read
    ∷ rule Posted 1 1024 true  -- 1 memory write
    ∷ rule NonPosted 1 1 false  -- 2 I/O read
    ∷ rule NonPosted 1 1 true  -- 3 I/O write
    ∷ rule NonPosted 1 1 false  -- 4 configuration read
    ∷ rule NonPosted 1 1 true  -- 5 configuration write
    ∷ rule Posted 0 0 false  -- 6 message
    ∷ rule Posted 1 1024 true  -- 7 message with data
    ∷ rule Completion 0 0 false  -- 8 completion
    ∷ rule Completion 1 1024 true  -- 9 completion with data
    ∷ []

-- a kind over 9 is refused before its rule counts: it has this one
abbrev pub no_rule : Rule
no_rule = rule Posted 0 0 false

unfoldable pub rule_of : ℕ → Rule
rule_of kind = get_or rules kind no_rule

-- ---- categories are numbered P 0, NP 1, C 2

abbrev pub number_of : Category → ℕ
number_of Posted = 0
number_of NonPosted = 1
number_of Completion = 2

-- where a category of a channel stands among those of all channels
abbrev pub slot_of : ℕ → Category → ℕ
slot_of channel c = 3 * channel + number_of c

-- the category of a number; none for one over 2
abbrev pub numbered : ℕ → Option Category
numbered c =
    if eqb c 0 then Some Posted
    else if eqb c 1 then Some NonPosted
    else if eqb c 2 then Some Completion
    else None

abbrev pub same : Category → Category → Bool
same a b = eqb (number_of a) (number_of b)

unfoldable pub category_of : Packet → Category
category_of p = (rule_of p.kind).category

-- ---- the packet rules: 12 kind over 9; 13 class over 7, or not 0 for kinds 2 to 5; 14 length

abbrev pub kind_answer : ℕ → ℕ
kind_answer kind = if ltb 9 kind then 12 else 0

abbrev pub class_answer : ℕ → ℕ → ℕ
class_answer kind class = if (ltb 7 class || ((leb 2 kind && leb kind 5) && not (eqb class 0))) then 13 else 0

abbrev pub length_answer : Rule → ℕ → ℕ
length_answer rule length = if (leb rule.least length && leb length rule.most) then 0 else 14

unfoldable pub packet_answer : Packet → ℕ
packet_answer p =
    first_of (kind_answer p.kind)
    (first_of (class_answer p.kind p.class)
    (length_answer (rule_of p.kind) p.length))

-- ---- a packet costs one header unit and, if it has payload, length/4 data units rounded up; else 0

abbrev pub header_units : Packet → ℕ
header_units p = 1

unfoldable pub data_units : Packet → ℕ
data_units p = if (rule_of p.kind).payload then (p.length + 3) / 4 else 0

unfoldable pub need_of : Packet → Counts
need_of p = counts (headers (header_units p)) (datas (data_units p))

-- the units of some packets together: each packet's are rounded up before they are added
abbrev pub headers_together : List Packet → ℕ
headers_together ps = total header_units ps

abbrev pub data_together : List Packet → ℕ
data_together ps = total data_units ps
