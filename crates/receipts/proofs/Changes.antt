-- What a receiving half holds at the start, after a packet was stored and after one was handed out: its receive buffers, its rooms, its reply.
-- Where it is said, its arrays have their lengths (`Arrays`), as every value of the code has. Assumes nothing else.
use Prim.Native.Nat.{ℕ, ◌+◌, ◌-◌, ◌<◌, ◌≤◌}
use mathlib.Core.Path.{◌≡◌, refl, ap, ◌∙◌}
use mathlib.Core.Logic.{◌≢◌}
use mathlib.Core.List.{[], ◌∷◌, ◌++◌}
use native.Mathlib.Omega.{arith}
use lib.ListN.{get_or, take, drop, get_or-map}
use lib.Seq.{get_or-take, get_or-set_same, get_or-set_other}
use Rattle.basics.proofs.Places.{get_or-same}
use Rattle.credits.specs.Credits.{none, advertised, room_of, received, given_back}
use Rattle.packets.specs.declared.Packet.{Packet}
use Rattle.packets.specs.declared.Category.{Category}
use Rattle.packets.specs.Packets.{category_of, need_of, slot_of}
use Rattle.packets.proofs.Numbers.{number_below}
use Rattle.store.specs.Store.{capacity, empty, held, at, pushed, removed}
use Rattle.store.proofs.Held.{held-pushed, len_pushed, held-removed, len_removed}
use Rattle.setup.specs.declared.Setup.{Setup}
use Rattle.setup.specs.Setup.{channels, per_end, no_units}
use Rattle.receiver.specs.declared.Receiver.{Receiver}
use Rattle.receiver.specs.Receiver.{room_for, start_of, inbox_at, room_at, after_accepted}
use Rattle.delivery.specs.Delivery.{stored, handed_out}
use Rattle.receipts.proofs.Arrays.{Arrays}

-- ---- the start: nothing waits, and each room is what its own setup gives

pub inbox-start : (link : Setup) (channel : ℕ) → inbox_at (start_of link) channel ≡ empty
unfolding start_of
inbox-start link channel = get_or-same channels channel empty

pub room-start : (link : Setup) (slot : ℕ) → slot < per_end → room_at (start_of link) slot ≡ room_for (get_or link.units slot no_units)
unfolding start_of advertised
room-start link slot h =
    get_or-map room_for (take per_end link.units) slot no_units
    ∙ ap room_for (get_or-take per_end link.units slot no_units h)

-- ---- other channels and other slots stay as they were

module _ (r : Receiver) (channel k : ℕ) where
  module _ (p : Packet) where
    pub inbox-stored-other : k ≢ channel → inbox_at (stored r channel p) k ≡ inbox_at r k
    unfolding stored
    inbox-stored-other h = get_or-set_other r.inboxes channel k (pushed (inbox_at r channel) p) empty h

    pub room-stored-other : k ≢ slot_of channel (category_of p) → room_at (stored r channel p) k ≡ room_at r k
    unfolding stored
    room-stored-other h = get_or-set_other r.rooms (slot_of channel (category_of p)) k _ (room_of none) h

  module _ (c : Category) (place : ℕ) where
    pub inbox_handed_other : k ≢ channel → inbox_at (handed_out r channel c place) k ≡ inbox_at r k
    unfolding handed_out
    inbox_handed_other h = get_or-set_other r.inboxes channel k (removed (inbox_at r channel) place) empty h

    pub room_handed_other : k ≢ slot_of channel c → room_at (handed_out r channel c place) k ≡ room_at r k
    unfolding handed_out
    room_handed_other h = get_or-set_other r.rooms (slot_of channel c) k _ (room_of none) h

-- ---- the reply

module _ (r : Receiver) (channel : ℕ) where
  pub reply-stored : (p : Packet) → (stored r channel p).reply ≡ after_accepted r.reply
  unfolding stored
  reply-stored p = refl

  pub reply_handed : (c : Category) (place : ℕ) → (handed_out r channel c place).reply ≡ r.reply
  unfolding handed_out
  reply_handed c place = refl

-- ---- the channel and the slot that change

module _ (r : Receiver) (a : Arrays r) (channel : ℕ) (here : channel < channels) where
  -- the slot of a category is one of the twelve
  slot_in_lem : (c : Category) → slot_of channel c < per_end
  slot_in_lem c = omega (arith, number_below c)

  module _ (p : Packet) where
    pub inbox-stored : inbox_at (stored r channel p) channel ≡ pushed (inbox_at r channel) p
    unfolding stored
    inbox-stored = get_or-set_same r.inboxes channel (pushed (inbox_at r channel) p) empty (omega (arith, a.inboxes_are))

    module _ (space : (inbox_at r channel).len < capacity) where
      pub held-stored : held (inbox_at (stored r channel p) channel) ≡ held (inbox_at r channel) ++ (p ∷ [])
      held-stored = rw inbox-stored (held-pushed (inbox_at r channel) (a.inbox_is channel) p space)

      pub len_stored : (inbox_at (stored r channel p) channel).len ≡ (inbox_at r channel).len + 1
      len_stored = rw inbox-stored (len_pushed (inbox_at r channel) (a.inbox_is channel) p space)

    -- it adds to received
    pub room-stored : room_at (stored r channel p) (slot_of channel (category_of p)) ≡ received (room_at r (slot_of channel (category_of p))) (need_of p)
    unfolding stored
    room-stored =
        get_or-set_same r.rooms (slot_of channel (category_of p)) _ (room_of none) (omega (arith, a.rooms_are, slot_in_lem (category_of p)))

  module _ (c : Category) (place : ℕ) where
    pub inbox_handed : inbox_at (handed_out r channel c place) channel ≡ removed (inbox_at r channel) place
    unfolding handed_out
    inbox_handed = get_or-set_same r.inboxes channel (removed (inbox_at r channel) place) empty (omega (arith, a.inboxes_are))

    module _ (within : place < (inbox_at r channel).len) (bound : (inbox_at r channel).len ≤ capacity) where
      pub held_handed : held (inbox_at (handed_out r channel c place) channel)
          ≡ take place (held (inbox_at r channel)) ++ drop (place + 1) (held (inbox_at r channel))
      held_handed = rw inbox_handed (held-removed (inbox_at r channel) (a.inbox_is channel) place within bound)

      pub len_handed : (inbox_at (handed_out r channel c place) channel).len ≡ (inbox_at r channel).len - 1
      len_handed = rw inbox_handed (len_removed (inbox_at r channel) (a.inbox_is channel) place within bound)

    -- it adds to allocated and marks that update
    pub room_handed : room_at (handed_out r channel c place) (slot_of channel c)
        ≡ given_back (room_at r (slot_of channel c)) (need_of (at (inbox_at r channel) place))
    unfolding handed_out
    room_handed = get_or-set_same r.rooms (slot_of channel c) _ (room_of none) (omega (arith, a.rooms_are, slot_in_lem c))
