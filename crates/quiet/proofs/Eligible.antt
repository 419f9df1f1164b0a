-- A direction at rest: what keeps a packet in its send queue. Its credits suffice where nothing of its category waits at the receiver, so the
-- first of its category with no posted packet before it is eligible. Where nothing waits there, no packet waits to be sent. Assumes nothing.
use Rattle.std.specs.Prelude.{None, Some}
use Prim.Native.Nat.{ℕ, ◌≤◌, ◌<◌}
use mathlib.Core.Path.{◌≡◌, refl, sym, ap, ◌∙◌}
use mathlib.Core.Logic.{◌⊎◌, inr, ⊎_elim}
use mathlib.Core.Bool.{Bool, true, false, true≢false, ◌||◌}
use mathlib.Core.List.{List, [], ◌∷◌}
use native.Mathlib.Omega.{arith}
use native.Mathlib.Nat.{add-zero}
use borrow.Author.Tests.{leb-true, eqb-true}
use lib.Dec.{eqb}
use lib.ListN.{length, take}
use Rattle.basics.proofs.Branches.{and_left, and_right}
use Rattle.packets.specs.declared.Packet.{Packet}
use Rattle.packets.specs.declared.Category.TheVariants.{Posted}
use Rattle.packets.specs.Packets.{category_of, packet_answer, data_units, need_of, slot_of}
use Rattle.credits.specs.Credits.{suffices}
use Rattle.store.specs.Store.{held, at, no_packet, is_of, of_category}
use Rattle.choice.specs.Choice.{none_of, eligible}
use Rattle.setup.specs.declared.Setup.{Setup}
use Rattle.setup.specs.Setup.{channels, in_range}
use Rattle.sender.specs.declared.Sender.{Sender}
use Rattle.sender.specs.Sender.{queue_at, credit_at}
use Rattle.sender.specs.Sources.{credits_of, new_of}
use Rattle.sender.proofs.Choosing.{credit_in_lem, none-eligible}
use Rattle.sender.proofs.Slots.{slot_below}
use Rattle.receiver.specs.declared.Receiver.{Receiver}
use Rattle.receiver.specs.declared.Owed.TheVariants as Owed
use Rattle.receiver.specs.Receiver.{inbox_at, first_marked}
use Rattle.amounts.specs.Amounts.{Fits, plus, amount_of, together, channel_for, slot_for, load, given, allowed}
use Rattle.amounts.proofs.Given.{given_some, channel_used}
use Rattle.amounts.proofs.Wrapped.{fits_gate, units-few}
use Rattle.direction.specs.Direction.{Past, belongs, affordable, Direction}
use Rattle.direction.proofs.Bounds.{arrived_parts, limit-near, units_small}
use Rattle.basics.proofs.All.{all-at}
use Rattle.quiet.specs.Quiet.{Live}
use Rattle.quiet.proofs.CaughtUp.{all-arrived, buffer_empty, limits_agree}

module _ {link : Setup} {g : Past} {s : Sender} {r : Receiver} (ok : in_range link ≡ true) (i : Direction link g s [] r []) (l : Live 0 link g s [] r [])
    (rests : s.replay.at ≡ None) (none_owed : r.reply.owed ≡ Owed.Nothing) (unmarked : first_marked r ≡ None) where
  module _ (channel place : ℕ) (here : channel < channels) (within : place < length (held (queue_at s channel)))
      (collected : of_category (category_of (at (queue_at s channel) place)) (held (inbox_at r channel)) ≡ []) where
    abbrev queue : List Packet
    queue = held (queue_at s channel)

    abbrev it : Packet
    it = at (queue_at s channel) place

    abbrev k : ℕ
    k = slot_of channel (category_of it)

    own : belongs link channel it ≡ true
    own = all-at (belongs link channel) queue place no_packet within (i.sending.queue channel here).belong

    is_on_lem : channel_for link it ≡ channel
    unfolding belongs
    is_on_lem = eqb-true (channel_for link it) channel (and_left (eqb (channel_for link it) channel) (eqb (packet_answer it) 0) own)

    rules : packet_answer it ≡ 0
    unfolding belongs
    rules = eqb-true (packet_answer it) 0 (and_right (eqb (channel_for link it) channel) (eqb (packet_answer it) 0) own)

    -- what was sent of its category is taken
    all-taken : load link g.sent k ≡ load link g.taken k
    unfolding together
    all-taken =
        sym (ap (λ ps. load link ps k) (all-arrived ok i l rests none_owed unmarked))
        ∙ arrived_parts i channel (category_of it) here
        ∙ rw (collected, add-zero (load link g.taken k).h, add-zero (load link g.taken k).d)

    -- so the setup's units are free, and it needs at most these
    fits_here : Fits (plus (load link g.sent k) (amount_of it)) (g.limit k)
    unfolding allowed affordable
    fits_here =
        let some = given_some link ok channel (category_of it) (rw is_on_lem at (channel_used link ok it rules)) in
        let units : data_units it ≤ (given link k).d =
        rw is_on_lem at (leb-true (data_units it) (given link (slot_for link it)).d (all-at (affordable link) queue place no_packet within (i.sending.small channel here))) in
        rw (limits_agree ok i l rests none_owed unmarked k (slot_below channel (category_of it) here), all-taken)
        record { h = omega (arith, some.0); d = omega (arith, units) }

    enough : suffices (credit_at s k) (need_of it) ≡ true
    enough =
        let below = slot_below channel (category_of it) here in
        let near = limit-near i channel (category_of it) here in
        let units = units_small link ok channel (category_of it) here in
        let f = i.crediting.within k in
        rw (i.crediting.limit_is k below, i.crediting.consumed_is k below)
        (fits_gate (g.limit k) (load link g.sent k) it f (omega (arith, near.h, units.0, f.h)) (omega (arith, near.d, units.1, f.d))
        (omega (arith, units-few it rules)) fits_here)

    -- first of its category, and posted or with no posted packet before it
    pub oldest_sends : none_of (category_of it) (take place queue) ≡ true → (is_of Posted it ≡ true) ⊎ (none_of Posted (take place queue) ≡ true)
        → eligible (credits_of s channel) (take place queue) it ≡ true
    unfolding eligible
    oldest_sends first in_order = rw (first, credit_in_lem s channel (category_of it), enough) (go (is_of Posted it) (none_of Posted (take place queue)) in_order)
      where
        go : (a b : Bool) → (a ≡ true) ⊎ (b ≡ true) → (a || b) ≡ true
        go true b e = refl
        go false b e = ⊎_elim (λ z. cc) (λ z. z) e

  -- ---- nothing waits at the receiver, and the sender has nothing to send

  pub queue-empty : new_of s ≡ None → ((channel : ℕ) → channel < channels → held (inbox_at r channel) ≡ [])
      → (channel : ℕ) → channel < channels → held (queue_at s channel) ≡ []
  queue-empty idle empty channel here = go (held (queue_at s channel)) refl
    where
      -- the oldest would be eligible
      go : (ps : List Packet) → held (queue_at s channel) ≡ ps → ps ≡ []
      go [] e = refl
      go (p ∷ ps) e =
          let within : 0 < length (held (queue_at s channel)) = omega (arith, ap length e) in
          let goes = oldest_sends channel 0 here within (rw (empty channel here) refl) refl (inr refl) in
          let stays = none-eligible s channel 0 idle (omega (arith, buffer_empty ok i l rests none_owed unmarked)) here within in
          absurd (true≢false (sym goes ∙ stays))
