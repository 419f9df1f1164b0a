-- Where the true amounts of a direction lie: taken, arrived, sent, limit, allocated, each at most the next, and all within the setup's units.
-- And how many packets the replay buffer holds at most.
-- Assumes nothing.
use Prim.Native.Nat.{ℕ, ◌≤◌, ◌<◌}
use mathlib.Core.Path.{◌≡◌, ap, ◌∙◌}
use mathlib.Core.Bool.{true}
use mathlib.Core.List.{List, ◌++◌}
use native.Mathlib.Omega.{arith}
use lib.ListN.{length, length-append}
use Rattle.basics.proofs.Totals.{total-append}
use Rattle.packets.specs.declared.Packet.{Packet}
use Rattle.packets.specs.declared.Category.{Category}
use Rattle.packets.specs.Packets.{data_units, data_together, slot_of}
use Rattle.store.specs.Store.{held, of_category}
use Rattle.store.proofs.Categories.{headers-counted}
use Rattle.line.specs.declared.Slot.{Slot}
use Rattle.setup.specs.declared.Setup.{Setup}
use Rattle.setup.specs.Setup.{channels, in_range}
use Rattle.sender.specs.declared.Sender.{Sender}
use Rattle.sender.specs.Sources.{buffer_bound}
use Rattle.sender.proofs.Slots.{slot_below}
use Rattle.receiver.specs.declared.Receiver.{Receiver}
use Rattle.receiver.specs.Receiver.{inbox_at}
use Rattle.amounts.specs.Amounts.{Amount, Fits, amount, plus, together, on, load, given, allowed}
use Rattle.direction.specs.Direction.{Past, arrived, Direction}
use Rattle.amounts.proofs.Loads.{load_of, load-take}
use Rattle.amounts.proofs.Given.{given-small}
use Rattle.traffic.proofs.Updates.{updates_le}

-- two lists of one category together
amount-append : (a b : List Packet) → amount (length (a ++ b)) (data_together (a ++ b)) ≡ plus (amount (length a) (data_together a)) (together b)
unfolding together
amount-append a b = rw (length-append a b, total-append data_units a b, headers-counted b)

-- the setup's units are few
pub units_small : (link : Setup) → in_range link ≡ true → (channel : ℕ) (c : Category) → channel < channels
    → ((given link (slot_of channel c)).h ≤ 16) × ((given link (slot_of channel c)).d ≤ 2047)
units_small link ok channel c here = given-small link ok (slot_of channel c) (slot_below channel c here)

module _ {link : Setup} {g : Past} {s : Sender} {forth back : List Slot} {r : Receiver} (i : Direction link g s forth r back) where
  -- the replay buffer holds what is sent and not acknowledged
  pub buffer_few : s.buffer.len ≤ buffer_bound
  buffer_few = omega (arith, i.sending.buffer_len, i.numbers.high)

  module _ (channel : ℕ) (c : Category) (here : channel < channels) where
    abbrev k : ℕ
    k = slot_of channel c

    abbrev waiting : List Packet
    waiting = of_category c (held (inbox_at r channel))

    -- what arrived was taken or waits
    pub arrived_parts : load link (arrived g) k ≡ plus (load link g.taken k) (together waiting)
    arrived_parts =
        load_of link channel c (arrived g)
        ∙ rw (← (i.receiving.inbox channel here).orders.same c, load_of link channel c g.taken) (amount-append (of_category c (on link channel g.taken)) waiting)

    pub taken_fits : Fits (load link g.taken k) (load link (arrived g) k)
    taken_fits = rw arrived_parts record { h = omega arith; d = omega arith }

    -- a limit is at most the setup's units ahead of what is consumed
    pub limit-near : Fits (g.limit k) (plus (given link k) (load link g.sent k))
    unfolding allowed
    limit-near =
        let x = updates_le i.updates_ok k in
        let y = taken_fits in
        let z = load-take link g.got g.sent k in
        record { h = omega (arith, x.h, y.h, z.h); d = omega (arith, x.d, y.d, z.d) }

    -- what arrived is at most what is allocated
    pub arrived_fits : Fits (load link (arrived g) k) (allowed link g.taken k)
    arrived_fits =
        let x = updates_le i.updates_ok k in
        let y = i.crediting.within k in
        let z = load-take link g.got g.sent k in
        record { h = omega (arith, x.h, y.h, z.h); d = omega (arith, x.d, y.d, z.d) }

    -- no receive buffer overflows: what waits is at most the setup's units
    pub waiting_fits : Fits (together waiting) (given link k)
    unfolding allowed
    waiting_fits =
        let x = arrived_fits in
        let e = arrived_parts in
        record { h = omega (arith, x.h, ap (λ (a : Amount). a.h) e); d = omega (arith, x.d, ap (λ (a : Amount). a.d) e) }
