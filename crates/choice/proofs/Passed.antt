-- What a walk keeps of the packets that it passed says the same as the packets themselves.
-- Assumes nothing.
use mathlib.Core.Path.{◌≡◌, refl}
use mathlib.Core.Bool.{Bool, true, false}
use mathlib.Core.List.{List, [], ◌∷◌, ◌++◌}
use Rattle.packets.specs.declared.Packet.{Packet}
use Rattle.packets.specs.declared.Category.{Category}
use Rattle.packets.specs.declared.Category.TheVariants.{Posted, NonPosted, Completion}
use Rattle.packets.specs.Packets.{category_of}
use Rattle.credits.specs.declared.Credit.{Credit}
use Rattle.basics.proofs.Branches.{and-true, and-false, not-not}
use Rattle.basics.proofs.All.{all_snoc}
use Rattle.choice.specs.Choice.{credit_of, none_of, eligible}
use Rattle.choice.specs.Seen.{seen_in, seeing, may_go}

-- one packet more
pub seeing_one : (older : List Packet) (p : Packet) → seeing (seen_in older) (category_of p) ≡ seen_in (older ++ (p ∷ []))
unfolding seen_in
seeing_one older p = go (category_of p) refl
  where
    go : (c : Category) → category_of p ≡ c → seeing (seen_in older) c ≡ seen_in (older ++ (p ∷ []))
    go Posted e = simp (seen_in, all_snoc, e, and-true, and-false)
    go NonPosted e = simp (seen_in, all_snoc, e, and-true, and-false)
    go Completion e = simp (seen_in, all_snoc, e, and-true, and-false)

-- what the walk lets go is what is eligible
pub lets-eligible : (credits : List Credit) (older : List Packet) (p : Packet)
    → may_go (seen_in older) (category_of p) (credit_of credits (category_of p)) p ≡ eligible credits older p
unfolding seen_in eligible
lets-eligible credits older p = go (category_of p) refl (none_of Posted older) refl
  where
    go : (c : Category) → category_of p ≡ c → (x : Bool) → none_of Posted older ≡ x
        → may_go (seen_in older) (category_of p) (credit_of credits (category_of p)) p ≡ eligible credits older p
    go Posted e true n = simp (seen_in, eligible, e, n)
    go Posted e false n = simp (seen_in, eligible, e, n)
    go NonPosted e x n = simp (seen_in, eligible, e, not-not)
    go Completion e x n = simp (seen_in, eligible, e, not-not)
