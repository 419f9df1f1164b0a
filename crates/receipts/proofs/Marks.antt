-- What the marks of a receiving half do: an update that goes out, Refresh, the first marked update, and what its frame carries.
-- Where it is said, its arrays have their lengths (`Arrays`), as every value of the code has. Assumes nothing else.
use Rattle.std.specs.Prelude.{Some, None}
use Prim.Native.Nat.{ℕ, ◌+◌, ◌-◌, ◌*◌, ◌/◌, ◌%◌, ◌<◌, ◌≤◌}
use mathlib.Core.Path.{◌≡◌, refl, sym, ap, ◌∙◌}
use mathlib.Core.Logic.{◌≢◌}
use mathlib.Core.Bool.{true, false, not}
use mathlib.Core.List.{◌++◌, map}
use native.Mathlib.Omega.{arith}
use borrow.Author.Tests.{lt-ltb, ltb-true, not-true, eqb-true, eqb-false}
use lib.Dec.{ltb, eqb}
use lib.ListN.{length, get_or, take, drop, get_or-map, get_or-append}
use lib.Seq.{get_or-take, get_or-drop, get_or-append-add, get_or-set_same, get_or-set_other}
use Rattle.basics.proofs.All.{all_past}
use Rattle.basics.proofs.Branches.{by_test}
use Rattle.basics.proofs.Each.{by_order_lem}
use Rattle.basics.proofs.Finds.{found_first, found_nothing}
use Rattle.basics.proofs.Maps.{length_made}
use Rattle.basics.proofs.Places.{get_or_any}
use Rattle.credits.specs.declared.Room.{Room}
use Rattle.credits.specs.Credits.{none, room_of, marked, unmarked}
use Rattle.packets.specs.declared.Category.{Category}
use Rattle.packets.specs.Packets.{number_of, slot_of}
use Rattle.setup.specs.Setup.{channels, per_end}
use Rattle.receiver.specs.declared.Receiver.{Receiver}
use Rattle.receiver.specs.Receiver.{room_at, is_marked, first_marked, channel_in, category_in, told, refreshed}
use Rattle.receipts.proofs.Arrays.{Arrays}

-- ---- an update goes out: its mark is cleared, and all else stays

module _ (r : Receiver) (slot : ℕ) where
  pub room-told : Arrays r → slot < per_end → room_at (told r slot) slot ≡ unmarked (room_at r slot)
  unfolding told
  room-told a h = get_or-set_same r.rooms slot _ (room_of none) (omega (arith, a.rooms_are))

  pub room-told-other : (k : ℕ) → k ≢ slot → room_at (told r slot) k ≡ room_at r k
  unfolding told
  room-told-other k h = get_or-set_other r.rooms slot k _ (room_of none) h

-- ---- Refresh: the rooms of the channels in use are marked, and all else stays

module _ (r : Receiver) (n : ℕ) where
  module _ (a : Arrays r) (fits : 3 * n ≤ per_end) (slot : ℕ) where
    marked-part : length (map marked (take (3 * n) r.rooms)) ≡ 3 * n
    marked-part = length_made marked r.rooms (3 * n) (omega (arith, a.rooms_are))

    pub room-refreshed : slot < 3 * n → room_at (refreshed r n) slot ≡ marked (room_at r slot)
    unfolding refreshed
    room-refreshed h =
        let within : slot < length (map marked (take (3 * n) r.rooms)) = omega (arith, marked-part) in
        get_or-append (map marked (take (3 * n) r.rooms)) (drop (3 * n) r.rooms) (room_of none) slot within
        ∙ get_or_any (map marked (take (3 * n) r.rooms)) slot (room_of none) (marked (room_of none)) within
        ∙ get_or-map marked (take (3 * n) r.rooms) slot (room_of none)
        ∙ ap marked (get_or-take (3 * n) r.rooms slot (room_of none) h)

    pub room-refreshed-other : 3 * n ≤ slot → room_at (refreshed r n) slot ≡ room_at r slot
    unfolding refreshed
    room-refreshed-other h =
        let past : slot ≡ length (map marked (take (3 * n) r.rooms)) + (slot - 3 * n) = omega (arith, marked-part) in
        let back : 3 * n + (slot - 3 * n) ≡ slot = omega arith in
        ap (λ i. get_or (map marked (take (3 * n) r.rooms) ++ drop (3 * n) r.rooms) i (room_of none)) past
        ∙ get_or-append-add (map marked (take (3 * n) r.rooms)) (drop (3 * n) r.rooms) (slot - 3 * n) (room_of none)
        ∙ get_or-drop (3 * n) r.rooms (slot - 3 * n) (room_of none)
        ∙ ap (λ i. room_at r i) back

    -- what marks leave as it was, Refresh leaves as it was
    unmoved : {A : Type 0} (f : Room → A) → ((m : Room) → f (marked m) ≡ f m) → f (room_at (refreshed r n) slot) ≡ f (room_at r slot)
    unmoved f same =
        by_order_lem slot (3 * n)
        (λ h. ap f (room-refreshed h) ∙ same (room_at r slot))
        (λ h. ap f (room-refreshed-other h))

    pub allocated_refreshed : (room_at (refreshed r n) slot).allocated ≡ (room_at r slot).allocated
    unfolding marked
    allocated_refreshed = unmoved (λ m. m.allocated) (λ m. refl)

    pub received-refreshed : (room_at (refreshed r n) slot).received ≡ (room_at r slot).received
    unfolding marked
    received-refreshed = unmoved (λ m. m.received) (λ m. refl)

    pub marked-refreshed : slot < 3 * n → (room_at (refreshed r n) slot).marked ≡ true
    unfolding marked
    marked-refreshed h = ap (λ (m : Room). m.marked) (room-refreshed h)

-- ---- the first marked update

module _ (r : Receiver) where
  pub first_marked_lem : Arrays r → (i : ℕ) → first_marked r ≡ Some i → (i < per_end) × ((room_at r i).marked ≡ true)
  first_marked_lem a i e =
      let f = found_first (room_of none) is_marked r.rooms i e in
      (omega (arith, f.0, a.rooms_are), f.1)

  pub none-marked : first_marked r ≡ None → (slot : ℕ) → (room_at r slot).marked ≡ false
  none-marked e slot =
      not-true _ (all_past (λ m. not (is_marked m)) r.rooms slot (room_of none) refl (found_nothing (room_of none) is_marked r.rooms 0 e))

-- ---- what its frame carries: the slot's channel and category

pub channel_in_below : (i : ℕ) → channel_in i < channels
channel_in_below i =
    by_test (λ (c : ℕ). c < channels) (ltb i per_end) {x = i / 3} {y = 0} (λ t. omega (arith, ltb-true i per_end t)) (λ t. omega arith)

module _ (i : ℕ) (h : i < per_end) where
  pub channel_in_lem : channel_in i ≡ i / 3
  channel_in_lem = rw (lt-ltb i per_end h)

  number_in : number_of (category_in i) ≡ i % 3
  number_in =
      by_test (λ (c : Category). number_of c ≡ i % 3) (eqb (i % 3) 0)
      (λ t. sym (eqb-true (i % 3) 0 t))
      (λ t. by_test (λ (c : Category). number_of c ≡ i % 3) (eqb (i % 3) 1)
      (λ u. sym (eqb-true (i % 3) 1 u))
      (λ u. omega (arith, eqb-false (i % 3) 0 t, eqb-false (i % 3) 1 u)))

  pub slot_in_lem : slot_of (channel_in i) (category_in i) ≡ i
  slot_in_lem = omega (arith, channel_in_lem, number_in)
