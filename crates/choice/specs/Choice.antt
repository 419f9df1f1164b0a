-- Which packet of a channel goes next. Document 01, step Send: a new packet is its channel's oldest eligible one.
-- Assumes nothing.
use Rattle.std.specs.Prelude.{Bool, ◌&&◌, ◌||◌, not, List, [], get_or, Option, ℕ}
use Rattle.basics.specs.Lists.{all, find_after}
use Rattle.packets.specs.declared.Packet.{Packet}
use Rattle.packets.specs.declared.Category.{Category}
use Rattle.packets.specs.declared.Category.TheVariants.{Posted}
use Rattle.packets.specs.Packets.{number_of, category_of, need_of}
use Rattle.credits.specs.declared.Credit.{Credit}
use Rattle.credits.specs.Credits.{none, credit, suffices}
use Rattle.store.specs.Store.{is_of}

-- the credit of a category, of a channel's three: P, NP, C
abbrev pub credit_of : List Credit → Category → Credit
credit_of credits c = get_or credits (number_of c) (credit none none)

-- none of these is of category c
abbrev pub none_of : Category → List Packet → Bool
none_of c ps = all (λ p. not (is_of c p)) ps

-- eligible, after the older ones of its channel: first of its category, credits suffice, and, unless posted, no older posted packet waits there
unfoldable pub eligible : List Credit → List Packet → Packet → Bool
eligible credits older p =
    none_of (category_of p) older
    && suffices (credit_of credits (category_of p)) (need_of p)
    && (is_of Posted p || none_of Posted older)

-- the place of the oldest eligible one
unfoldable pub chosen : List Credit → List Packet → Option ℕ
chosen credits ps = find_after (eligible credits) [] ps 0
