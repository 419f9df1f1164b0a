-- What the choice of a new packet promises: the three facts that later proofs use of it, and that nothing eligible is passed over.
-- Assumes nothing.
use Rattle.std.specs.Prelude.{Some, None}
use Prim.Native.Nat.{ℕ, ◌<◌}
use mathlib.Core.Path.{◌≡◌, refl}
use mathlib.Core.Bool.{Bool, true, false, ◌&&◌, ◌||◌}
use mathlib.Core.Logic.{◌⊎◌, inl, inr}
use mathlib.Core.List.{List}
use lib.ListN.{length, get_or, take}
use Rattle.basics.proofs.Branches.{and_left, and_right}
use Rattle.basics.proofs.Finds.{found_after, found-nothing-after}
use Rattle.packets.specs.declared.Packet.{Packet}
use Rattle.packets.specs.declared.Category.TheVariants.{Posted}
use Rattle.packets.specs.Packets.{category_of, need_of}
use Rattle.credits.specs.declared.Credit.{Credit}
use Rattle.credits.specs.Credits.{suffices}
use Rattle.store.specs.Store.{no_packet, is_of}
use Rattle.choice.specs.Choice.{credit_of, none_of, eligible, chosen}

module _ (credits : List Credit) (ps : List Packet) where
  module _ (i : ℕ) (at : chosen credits ps ≡ Some i) where
    abbrev it : Packet
    it = get_or ps i no_packet

    -- the three parts of `eligible`
    abbrev first : Bool
    first = none_of (category_of it) (take i ps)

    abbrev enough : Bool
    enough = suffices (credit_of credits (category_of it)) (need_of it)

    abbrev in_order : Bool
    in_order = is_of Posted it || none_of Posted (take i ps)

    pub chosen-within : i < length ps
    unfolding chosen
    chosen-within = (found_after no_packet (eligible credits) ps i at).0

    pub chosen-eligible : eligible credits (take i ps) it ≡ true
    unfolding chosen
    chosen-eligible = (found_after no_packet (eligible credits) ps i at).1

    -- first of its category in its channel
    pub chosen_first : none_of (category_of it) (take i ps) ≡ true
    unfolding eligible
    chosen_first = and_left first enough (and_left (first && enough) in_order chosen-eligible)

    -- its credits suffice
    pub chosen-suffices : suffices (credit_of credits (category_of it)) (need_of it) ≡ true
    unfolding eligible
    chosen-suffices = and_right first enough (and_left (first && enough) in_order chosen-eligible)

    -- it is posted, or no posted packet stands before it
    pub chosen_in-order : (is_of Posted it ≡ true) ⊎ (none_of Posted (take i ps) ≡ true)
    unfolding eligible
    chosen_in-order = go (is_of Posted it) refl (and_right (first && enough) in_order chosen-eligible)
      where
        go : (b : Bool) → is_of Posted it ≡ b → (b || none_of Posted (take i ps)) ≡ true → (is_of Posted it ≡ true) ⊎ (none_of Posted (take i ps) ≡ true)
        go true e h = inl e
        go false e h = inr h

  -- where nothing is chosen nothing is eligible
  pub none-chosen : (j : ℕ) → chosen credits ps ≡ None → j < length ps → eligible credits (take j ps) (get_or ps j no_packet) ≡ false
  unfolding chosen
  none-chosen j e h = found-nothing-after no_packet (eligible credits) ps j e h
