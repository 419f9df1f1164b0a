-- What waits in a send queue or a receive buffer of a channel: a packet enters at the end, or the first of its category leaves.
-- Assumes nothing.
use Prim.Native.Nat.{ℕ, ◌+◌, ◌-◌, ◌<◌}
use mathlib.Core.Path.{◌≡◌, refl}
use mathlib.Core.Logic.{◌⊎◌}
use mathlib.Core.Bool.{true, not}
use mathlib.Core.List.{List, [], ◌∷◌, ◌++◌}
use native.Mathlib.Omega.{arith}
use borrow.Author.Tests.{eqb-true, eq-eqb}
use lib.Dec.{eqb}
use lib.ListN.{length, take, drop}
use Rattle.basics.specs.Lists.{all}
use Rattle.basics.proofs.All.{all_snoc, all_without, all-at}
use Rattle.basics.proofs.Branches.{and_left, and_right}
use Rattle.packets.specs.declared.Packet.{Packet}
use Rattle.packets.specs.declared.Category.TheVariants.{Posted}
use Rattle.packets.specs.Packets.{category_of, packet_answer}
use Rattle.store.specs.declared.Packets.{Packets}
use Rattle.store.specs.Store.{capacity, held, at, no_packet, is_of}
use Rattle.setup.specs.declared.Setup.{Setup}
use Rattle.orders.proofs.Orders.{orders_enter, orders-leave}
use Rattle.amounts.specs.Amounts.{channel_for, is_on, on}
use Rattle.amounts.proofs.Loads.{on_same}
use Rattle.direction.specs.Direction.{belongs, Waits}

-- ---- a packet that belongs to a channel is on it, and the packet rules do not refuse it

module _ (link : Setup) (channel : ℕ) (p : Packet) (own : belongs link channel p ≡ true) where
  pub belongs-on : is_on link channel p ≡ true
  unfolding belongs
  belongs-on = and_left (is_on link channel p) (eqb (packet_answer p) 0) own

  pub belongs-formed : eqb (packet_answer p) 0 ≡ true
  unfolding belongs
  belongs-formed = and_right (is_on link channel p) (eqb (packet_answer p) 0) own

  pub belongs_channel : channel_for link p ≡ channel
  belongs_channel = eqb-true (channel_for link p) channel belongs-on

  pub belongs-rules : packet_answer p ≡ 0
  belongs-rules = eqb-true (packet_answer p) 0 belongs-formed

-- ---- the packet at a place is one of them

pub waits_own : {link : Setup} {channel : ℕ} {from out : List Packet} {q : Packets} (place : ℕ)
    → Waits link channel from out q → place < length (held q) → belongs link channel (at q place) ≡ true
waits_own {link} {channel} {q = q} place w within = all-at (belongs link channel) (held q) place no_packet within w.belong

-- ---- a packet enters

pub waits_enter : (link : Setup) (from : List Packet) (p : Packet) {out : List Packet} {q q' : Packets}
    → Waits link (channel_for link p) (on link (channel_for link p) from) out q → packet_answer p ≡ 0
    → q.len < capacity → q'.len ≡ q.len + 1 → held q' ≡ held q ++ (p ∷ [])
    → Waits link (channel_for link p) (on link (channel_for link p) (from ++ (p ∷ []))) out q'
unfolding belongs
waits_enter link from p {q = q} w rules room len held-is =
    let channel = channel_for link p in
    record {
      bound = omega (arith, len, room);
      belong = rw (held-is, all_snoc (belongs link channel) (held q) p, w.belong, eq-eqb channel channel refl, eq-eqb (packet_answer p) 0 rules);
      orders = rw (held-is, on_same link channel from p refl) (orders_enter p w.orders);
    }

-- ---- the packet at a place leaves: the first of its category, and posted or with no posted one before it

pub waits_leave : (link : Setup) (channel : ℕ) (out : List Packet) (place : ℕ) {from : List Packet} {q q' : Packets}
    → Waits link channel from (on link channel out) q → place < length (held q)
    → all (λ p. not (is_of (category_of (at q place)) p)) (take place (held q)) ≡ true
    → ((is_of Posted (at q place) ≡ true) ⊎ (all (λ p. not (is_of Posted p)) (take place (held q)) ≡ true))
    → q'.len ≡ q.len - 1 → held q' ≡ take place (held q) ++ drop (place + 1) (held q)
    → Waits link channel from (on link channel (out ++ (at q place ∷ []))) q'
waits_leave link channel out place {q = q} w within first in_order len held-is =
    record {
      bound = omega (arith, len, w.bound);
      belong = rw held-is (all_without (belongs link channel) place (place + 1) (held q) w.belong);
      orders =
          rw (held-is, on_same link channel out (at q place) (belongs_channel link channel (at q place) (waits_own place w within)))
          (orders-leave place within first in_order w.orders);
    }
