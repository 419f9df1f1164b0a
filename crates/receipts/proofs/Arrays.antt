-- The lengths of a receiving half's arrays: four receive buffers of 48 places, twelve rooms. Each change keeps them.
-- Assumes nothing.
use Prim.Native.Nat.{ℕ, ◌*◌}
use mathlib.Core.Path.{◌≡◌, refl, ◌∙◌}
use native.Mathlib.Omega.{arith}
use lib.ListN.{length, set, get_or, take, drop, length-append, length-map, length-set, take-append-drop}
use lib.Seq.{length-take-le}
use Rattle.basics.proofs.Places.{stored-keeps, get_or-same}
use Rattle.packets.specs.declared.Packet.{Packet}
use Rattle.packets.specs.declared.Category.{Category}
use Rattle.store.specs.declared.Packets.{Packets}
use Rattle.store.specs.Store.{capacity, empty, pushed, removed}
use Rattle.store.proofs.Held.{length-pushed, length_removed}
use Rattle.setup.specs.declared.Setup.{Setup}
use Rattle.setup.specs.Setup.{channels, per_end, slots}
use Rattle.receiver.specs.declared.Receiver.{Receiver}
use Rattle.receiver.specs.declared.Reply.{Reply}
use Rattle.receiver.specs.Receiver.{start_of, inbox_at, with_reply, told, refreshed}
use Rattle.delivery.specs.Delivery.{stored, handed_out}

pub record Arrays (r : Receiver) : Type 0 where
  pub inboxes_are : length r.inboxes ≡ channels
  pub rooms_are : length r.rooms ≡ per_end
  pub inbox_is : (channel : ℕ) → length (inbox_at r channel).items ≡ capacity

pub arrays_start : (link : Setup) → length link.units ≡ slots → Arrays (start_of link)
unfolding start_of
arrays_start link h =
    record {
      inboxes_are = refl;
      rooms_are = rw length-map (length-take-le per_end link.units (omega arith));
      inbox_is = λ channel. rw (get_or-same channels channel empty);
    }

module _ (r : Receiver) (a : Arrays r) where
  -- a receive buffer of 48 places is stored
  stored-inbox : (channel : ℕ) (q : Packets) → length q.items ≡ capacity
      → (k : ℕ) → length (get_or (set r.inboxes channel q) k empty).items ≡ capacity
  stored-inbox channel q h k = stored-keeps (λ (x : Packets). length x.items ≡ capacity) r.inboxes channel k q empty h (a.inbox_is k)

  -- ---- what changes the reply or the rooms alone

  pub arrays_reply : (x : Reply) → Arrays (with_reply r x)
  arrays_reply x = record { inboxes_are = a.inboxes_are; rooms_are = a.rooms_are; inbox_is = a.inbox_is }

  pub arrays_told : (slot : ℕ) → Arrays (told r slot)
  unfolding told
  arrays_told slot = record { inboxes_are = a.inboxes_are; rooms_are = length-set r.rooms slot _ ∙ a.rooms_are; inbox_is = a.inbox_is }

  pub arrays_refreshed : (n : ℕ) → Arrays (refreshed r n)
  unfolding refreshed
  arrays_refreshed n =
      record {
        inboxes_are = a.inboxes_are;
        rooms_are =
            rw (length-append, length-map, ← length-append (take (3 * n) r.rooms) (drop (3 * n) r.rooms), take-append-drop) a.rooms_are;
        inbox_is = a.inbox_is;
      }

  -- ---- a packet comes or goes

  pub arrays_stored : (channel : ℕ) (p : Packet) → Arrays (stored r channel p)
  unfolding stored
  arrays_stored channel p =
      record {
        inboxes_are = length-set r.inboxes channel _ ∙ a.inboxes_are;
        rooms_are = length-set r.rooms _ _ ∙ a.rooms_are;
        inbox_is =
            stored-inbox channel (pushed (inbox_at r channel) p)
            (length-pushed (inbox_at r channel) (a.inbox_is channel) p ∙ a.inbox_is channel);
      }

  pub arrays_handed : (channel : ℕ) (c : Category) (place : ℕ) → Arrays (handed_out r channel c place)
  unfolding handed_out
  arrays_handed channel c place =
      record {
        inboxes_are = length-set r.inboxes channel _ ∙ a.inboxes_are;
        rooms_are = length-set r.rooms _ _ ∙ a.rooms_are;
        inbox_is =
            stored-inbox channel (removed (inbox_at r channel) place)
            (length_removed (inbox_at r channel) (a.inbox_is channel) place ∙ a.inbox_is channel);
      }
