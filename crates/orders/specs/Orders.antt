-- Packets that enter a list at its end and leave it by category, as from a send queue and from a receive buffer.
-- What keeps them in order: each category leaves in its order, and none leaves before a posted one that entered earlier. Assumes nothing.
use Rattle.std.specs.Prelude.{ℕ, zero, suc, ◌≤◌, ◌≡◌, Bool, true, false, List, [], ◌∷◌, ◌++◌}
use Rattle.packets.specs.declared.Packet.{Packet}
use Rattle.packets.specs.declared.Category.{Category}
use Rattle.packets.specs.declared.Category.TheVariants.{Posted}
use Rattle.store.specs.Store.{is_of, of_category}

-- one packet of the list: is it of the category, is it posted, how many of the category are passed over, what the rest counts
abbrev pub counted : Bool → Bool → ℕ → (ℕ → ℕ) → ℕ
counted true posted zero rest = 0
counted true posted (suc m) rest = rest m
counted false true m rest = suc (rest m)
counted false false m rest = rest m

-- how many posted packets stand before the m-th packet of category c, counted from 0; all of them where there is no m-th
unfoldable pub before : Category → List Packet → ℕ → ℕ
before c [] m = 0
before c (p ∷ ps) m = counted (is_of c p) (is_of Posted p) m (λ j. before c ps j)

-- no packet of category c has fewer posted ones before it in `after` than in `from`
pub record Follows (c : Category) (from after : List Packet) : Type 0 where
  pub least : (m : ℕ) → before c from m ≤ before c after m

-- `from` entered in this order; of these, `out` have left in this order and `waiting` are left
pub record Orders (from out waiting : List Packet) : Type 0 where
  pub same : (c : Category) → of_category c out ++ of_category c waiting ≡ of_category c from
  pub order : (c : Category) → Follows c from (out ++ waiting)
