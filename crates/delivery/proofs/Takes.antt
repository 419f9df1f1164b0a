-- The ways through an arrival in sequence and through Take, over plain values: each way's answer is the definition's.
-- Assumes nothing.
use Rattle.std.specs.Prelude.{Some, None, Option, ℕ}
use Prim.Native.Nat.{ℕ, ◌≤◌, ◌<◌}
use mathlib.Core.Path.{◌≡◌}
use mathlib.Core.Bool.{Bool, true, false}
use borrow.Author.Tests.{le-leb, lt-leb}
use Rattle.basics.specs.Lists.{find}
use Rattle.packets.specs.declared.Category.{Category}
use Rattle.packets.specs.declared.Category.TheVariants.{Posted}
use Rattle.packets.specs.Packets.{numbered}
use Rattle.store.specs.Store.{held, at, is_of}
use Rattle.setup.specs.Setup.{channels}
use Rattle.receiver.specs.declared.Receiver.{Receiver}
use Rattle.receiver.specs.Receiver.{inbox_at}
use Rattle.delivery.specs.Delivery.{got, handed_out, is_before, taken_at, taken, taken_by, take_of}

-- Take by category, at what was found
module _ (r : Receiver) (channel : ℕ) (c : Category) (f : Option ℕ) (found : f ≡ find (is_of c) (held (inbox_at r channel)) 0) where
  pub none_waits : f ≡ None → got r 21 0 ≡ taken r channel c
  unfolding taken_at
  none_waits e = rw (← found, e)

  module _ (place : ℕ) (is : f ≡ Some place) (b : Bool)
      (before : b ≡ is_before (find (is_of Posted) (held (inbox_at r channel)) 0) place) where
    pub posted_waits : b ≡ true → got r 22 0 ≡ taken r channel c
    unfolding taken_at
    posted_waits e = simp (taken_at, ← found, is, ← before, e)

    pub handed : b ≡ false → got (handed_out r channel c place) 0 (at (inbox_at r channel) place).ident ≡ taken r channel c
    unfolding taken_at
    handed e = simp (taken_at, ← found, is, ← before, e)

-- Take by numbers
module _ (r : Receiver) (n channel category : ℕ) where
  pub past_n : n ≤ channel → got r 20 0 ≡ take_of r n channel category
  unfolding take_of
  past_n h = simp (take_of, le-leb n channel h)

  module _ (used : channel < n) where
    pub past_all : channels ≤ channel → got r 20 0 ≡ take_of r n channel category
    unfolding take_of
    past_all h = simp (take_of, lt-leb n channel used, le-leb channels channel h)

    pub by_category : channel < channels → (x : Option Category) → x ≡ numbered category → taken_by r channel x ≡ take_of r n channel category
    unfolding take_of
    by_category h x e = simp (take_of, lt-leb n channel used, lt-leb channels channel h, e)
