-- Take on the inbox and the room that it changes is Take on the whole end; where they stand; and the ways through its functions, over plain values.
-- Assumes nothing.
use Rattle.std.specs.Prelude.{if◌then◌else◌, Option, Some, None}
use Prim.Native.Nat.{ℕ, ◌<◌, ◌≤◌}
use mathlib.Core.Bool.{Bool, true, false}
use mathlib.Core.List.{List}
use mathlib.Core.Path.{◌≡◌, refl, ◌∙◌, ap}
use native.Mathlib.Omega.{arith}
use borrow.Author.Tests.{le-leb, lt-leb, leb-false}
use lib.Dec.{leb}
use lib.ListN.{set}
use lib.Seq.{set-get_or}
use Rattle.basics.specs.Lists.{find}
use Rattle.packets.specs.declared.Category.{Category}
use Rattle.packets.specs.declared.Category.TheVariants.{Posted}
use Rattle.packets.specs.Packets.{numbered, need_of, slot_of}
use Rattle.packets.proofs.Numbers.{number_below}
use Rattle.credits.specs.declared.Room.{Room}
use Rattle.credits.specs.Credits.{given_back, none, room_of}
use Rattle.store.specs.declared.Packets.{Packets}
use Rattle.store.specs.Store.{held, at, empty, is_of, removed}
use Rattle.setup.specs.Setup.{channels, per_end}
use Rattle.receiver.specs.declared.Receiver.{Receiver}
use Rattle.receiver.specs.Receiver.{receiver, inbox_at, room_at}
use Rattle.delivery.specs.Delivery as D
use Rattle.delivery.specs.Delivery.{Got, got, is_before, taken_at, taken_by, take_of}
use Rattle.ends.specs.declared.End.{End}
use Rattle.ends.specs.Ends.{end, by_receiver}
use Rattle.host.specs.Parts.{Asked, Handed, nowhere, asked_by, asked_of, keeps, handed_at, handed_of, handed_out}
use Rattle.host.specs.Host.{said_of}

-- the end with this inbox, or this room, at place k
abbrev pub with_inbox_at : End → ℕ → Packets → End
with_inbox_at e k q = end e.setup e.sender (receiver (set e.receiver.inboxes k q) e.receiver.rooms e.receiver.reply)

abbrev pub with_room_at : End → ℕ → Room → End
with_room_at e k m = end e.setup e.sender (receiver e.receiver.inboxes (set e.receiver.rooms k m) e.receiver.reply)

-- ---- what is asked for

module _ (n channel category : ℕ) where
  pub past_n : n ≤ channel → nowhere ≡ asked_of n channel category
  unfolding asked_of
  past_n h = simp (asked_of, le-leb n channel h)

  module _ (used : channel < n) where
    pub past_all : channels ≤ channel → nowhere ≡ asked_of n channel category
    unfolding asked_of
    past_all h = simp (asked_of, lt-leb n channel used, le-leb channels channel h)

    pub by_number : channel < channels → (x : Option Category) → x ≡ numbered category → asked_by channel x ≡ asked_of n channel category
    unfolding asked_of
    by_number h x e = simp (asked_of, lt-leb n channel used, lt-leb channels channel h, e)

  -- its places are within the arrays
  inside : (t v : Bool) → leb channels channel ≡ v → (x : Option Category)
      → ((if t then nowhere else if v then nowhere else asked_by channel x).inbox < channels)
      × ((if t then nowhere else if v then nowhere else asked_by channel x).room < per_end)
  inside true v e x = (omega arith, omega arith)
  inside false true e x = (omega arith, omega arith)
  inside false false e None = (omega arith, omega arith)
  inside false false e (Some c) = (leb-false channels channel e, omega (arith, leb-false channels channel e, number_below c))

  pub inbox_in : (asked_of n channel category).inbox < channels
  unfolding asked_of
  inbox_in = (inside (leb n channel) (leb channels channel) refl (numbered category)).0

  pub room_in_lem : (asked_of n channel category).room < per_end
  unfolding asked_of
  room_in_lem = (inside (leb n channel) (leb channels channel) refl (numbered category)).1

-- ---- what is handed out

module _ (c : Category) (inbox : Packets) (room : Room) (f : Option ℕ) (found : f ≡ find (is_of c) (held inbox) 0) where
  pub none_waits : f ≡ None → keeps 21 inbox room ≡ handed_of c inbox room
  unfolding handed_at
  none_waits e = rw (← found, e)

  module _ (place : ℕ) (is : f ≡ Some place) (b : Bool) (first : b ≡ is_before (find (is_of Posted) (held inbox) 0) place) where
    pub posted_waits : b ≡ true → keeps 22 inbox room ≡ handed_of c inbox room
    unfolding handed_at
    posted_waits e = simp (handed_at, ← found, is, ← first, e)

    pub hands : b ≡ false
        → record { said = record { answer = 0; detail = (at inbox place).ident }; inbox = removed inbox place; room = given_back room (need_of (at inbox place)) } ≡ handed_of c inbox room
    unfolding handed_at
    hands e = simp (handed_at, ← found, is, ← first, e)

-- ---- the whole end

module _ (e : End) where
  abbrev r : Receiver
  r = e.receiver

  abbrev Same : ℕ → ℕ → Handed → Got → Type 0
  Same i j s g = (s.said ≡ said_of (by_receiver e g)) × (with_room_at (with_inbox_at e i s.inbox) j s.room ≡ (by_receiver e g).end)

  -- what is put back changes nothing
  kept : (i j : ℕ) → with_room_at (with_inbox_at e i (inbox_at r i)) j (room_at r j) ≡ e
  kept i j =
      ap (λ (qs : List Packets). end e.setup e.sender (receiver qs (set r.rooms j (room_at r j)) r.reply)) (set-get_or r.inboxes i empty)
      ∙ ap (λ (ms : List Room). end e.setup e.sender (receiver r.inboxes ms r.reply)) (set-get_or r.rooms j (room_of none))

  by_place_lem : (channel : ℕ) (c : Category) (place : ℕ) (t : Bool)
      → Same channel (slot_of channel c)
      (if t then keeps 22 (inbox_at r channel) (room_at r (slot_of channel c))
      else record {
        said = record { answer = 0; detail = (at (inbox_at r channel) place).ident };
        inbox = removed (inbox_at r channel) place;
        room = given_back (room_at r (slot_of channel c)) (need_of (at (inbox_at r channel) place));
      })
      (if t then got r 22 0 else got (D.handed_out r channel c place) 0 (at (inbox_at r channel) place).ident)
  unfolding D.handed_out
  by_place_lem channel c place true = (refl, kept channel (slot_of channel c))
  by_place_lem channel c place false = (refl, refl)

  by_found : (channel : ℕ) (c : Category) (f : Option ℕ) → Same channel (slot_of channel c) (handed_at (inbox_at r channel) (room_at r (slot_of channel c)) f) (taken_at r channel c f)
  unfolding handed_at taken_at
  by_found channel c None = (refl, kept channel (slot_of channel c))
  by_found channel c (Some place) = by_place_lem channel c place (is_before (find (is_of Posted) (held (inbox_at r channel)) 0) place)

  abbrev On : Asked → Got → Type 0
  On a g = Same a.inbox a.room (handed_out a (inbox_at r a.inbox) (room_at r a.room)) g

  by_tests : (channel : ℕ) (t v : Bool) (x : Option Category)
      → On (if t then nowhere else if v then nowhere else asked_by channel x) (if t then got r 20 0 else if v then got r 20 0 else taken_by r channel x)
  unfolding handed_out
  by_tests channel true v x = (refl, kept 0 0)
  by_tests channel false true x = (refl, kept 0 0)
  by_tests channel false false None = (refl, kept 0 0)
  by_tests channel false false (Some c) = by_found channel c (find (is_of c) (held (inbox_at r channel)) 0)

  pub takes : (channel category : ℕ) → On (asked_of e.setup.n channel category) (take_of r e.setup.n channel category)
  unfolding asked_of take_of
  takes channel category = by_tests channel (leb e.setup.n channel) (leb channels channel) (numbered category)
