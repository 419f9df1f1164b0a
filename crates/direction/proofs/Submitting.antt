-- Submit keeps the direction: the packet joins its channel's send queue.
-- Assumes nothing.
use Rattle.std.specs.Prelude.{if◌then◌else◌}
use Prim.Native.Nat.{ℕ, ◌≤◌, ◌<◌}
use mathlib.Core.Path.{◌≡◌, refl, sym, ◌∙◌}
use mathlib.Core.Logic.{◌≢◌, by_cases}
use mathlib.Core.Bool.{Bool, true, false}
use mathlib.Core.List.{List, [], ◌∷◌, ◌++◌}
use native.Mathlib.Decide.{ℕ_discrete}
use native.Mathlib.Omega.{arith}
use borrow.Author.Tests.{le-leb, eq-eqb}
use lib.Dec.{eqb}
use lib.ListN.{length, length-append}
use Rattle.basics.specs.Lists.{all}
use Rattle.basics.proofs.All.{all_snoc}
use Rattle.basics.proofs.Filters.{filter-append}
use Rattle.packets.specs.declared.Packet.{Packet}
use Rattle.packets.specs.declared.Category.{Category}
use Rattle.packets.specs.declared.Category.TheVariants.{Posted, NonPosted, Completion}
use Rattle.packets.specs.Packets.{category_of, packet_answer, data_units}
use Rattle.store.specs.declared.Packets.{Packets}
use Rattle.store.specs.Store.{capacity, held, is_of, of_category}
use Rattle.store.proofs.Held.{length-held}
use Rattle.store.proofs.Categories.{same-category}
use Rattle.line.specs.declared.Slot.{Slot}
use Rattle.setup.specs.declared.Setup.{Setup}
use Rattle.setup.specs.Setup.{channels, in_range}
use Rattle.sender.specs.declared.Sender.{Sender}
use Rattle.sender.specs.Sender.{queue_at, submitted}
use Rattle.sender.proofs.Arrays.{arrays_submitted}
use Rattle.sender.proofs.Changes.{queue-submitted-other, held-submitted, len_submitted}
use Rattle.receiver.specs.declared.Receiver.{Receiver}
use Rattle.amounts.specs.Amounts.{channel_for, on, slot_for, given}
use Rattle.direction.specs.Direction.{Past, accepting, affordable, Waits, Direction}
use Rattle.direction.proofs.Waits.{waits_enter}
use Rattle.orders.proofs.Orders.{count_parts}
use Rattle.amounts.proofs.Loads.{on-other}
use Rattle.amounts.proofs.Given.{channel_below}

-- one more of category d in a list: at most one more of category c
one_more : (c d : Category) (p : Packet) → d ≡ category_of p → (l : List Packet) (n : ℕ) → length (of_category c l) ≤ n
    → (d ≡ c → length (of_category c l) < n) → length (of_category c (l ++ (p ∷ []))) ≤ n
one_more c d p is l n h k = rw (filter-append (is_of c) l (p ∷ [])) (go (is_of c p) refl)
  where
    go : (t : Bool) → is_of c p ≡ t → length (of_category c l ++ (if t then p ∷ [] else [])) ≤ n
    go true e = rw (length-append (of_category c l) (p ∷ [])) (omega (arith, k (is ∙ same-category (category_of p) c e)))
    go false e = rw (length-append (of_category c l) []) (omega arith)

module _ {link : Setup} {g : Past} {s : Sender} {forth back : List Slot} {r : Receiver} (i : Direction link g s forth r back) where
  -- at most 8 of each category wait, so there is a place
  pub queue-room : (channel : ℕ) → channel < channels → (queue_at s channel).len < capacity
  queue-room channel h =
      let q = queue_at s channel in
      let w = i.sending.queue channel h in
      omega (
        arith,
        length-held q (i.s_arrays.queue_is channel) w.bound,
        count_parts (held q),
        i.sending.few channel Posted h,
        i.sending.few channel NonPosted h,
        i.sending.few channel Completion h,
      )

module _ {link : Setup} {g : Past} {s : Sender} {forth back : List Slot} {r : Receiver} (ok : in_range link ≡ true) (i : Direction link g s forth r back) where
  module _ (p : Packet) (rules : packet_answer p ≡ 0) (enough : data_units p ≤ (given link (slot_for link p)).d)
      (room : length (of_category (category_of p) (held (queue_at s (channel_for link p)))) < 8) where
    here : channel_for link p < channels
    here = channel_below link ok p rules

    place : (queue_at s (channel_for link p)).len < capacity
    place = queue-room i (channel_for link p) here

    -- what the channel's queue holds after it, and what the others hold
    held-here : held (queue_at (submitted s (channel_for link p) p) (channel_for link p)) ≡ held (queue_at s (channel_for link p)) ++ (p ∷ [])
    held-here = held-submitted s i.s_arrays (channel_for link p) here p place

    pays : affordable link p ≡ true
    unfolding affordable
    pays = le-leb (data_units p) (given link (slot_for link p)).d enough

    -- by channel: the one that it joins, or another
    by_channel : (P : ℕ → Packets → Type 0) → P (channel_for link p) (queue_at (submitted s (channel_for link p) p) (channel_for link p))
        → ((channel : ℕ) → channel ≢ channel_for link p → P channel (queue_at s channel))
        → (channel : ℕ) → P channel (queue_at (submitted s (channel_for link p) p) channel)
    by_channel P same others channel =
        by_cases (ℕ_discrete channel (channel_for link p))
        (λ e. rw e same)
        (λ n. rw (queue-submitted-other s (channel_for link p) channel p n) (others channel n))

    waits_here : Waits link (channel_for link p) (on link (channel_for link p) (g.accepted ++ (p ∷ []))) (on link (channel_for link p) g.sent)
        (queue_at (submitted s (channel_for link p) p) (channel_for link p))
    waits_here =
        waits_enter link g.accepted p (i.sending.queue (channel_for link p) here) rules place
        (len_submitted s i.s_arrays (channel_for link p) here p place) held-here

    pub submit-keeps : Direction link (accepting g p) (submitted s (channel_for link p) p) forth r back
    unfolding submitted
    submit-keeps =
        record {
          s_arrays = arrays_submitted s i.s_arrays (channel_for link p) p;
          r_arrays = i.r_arrays;
          numbers = i.numbers;
          sending =
              record {
                next_is = i.sending.next_is;
                acked_is = i.sending.acked_is;
                buffer_is = i.sending.buffer_is;
                buffer_len = i.sending.buffer_len;
                replay_in_lem = i.sending.replay_in_lem;
                count_fits = i.sending.count_fits;
                known = rw (all_snoc (λ q. eqb (packet_answer q) 0) g.accepted p, i.sending.known, eq-eqb (packet_answer p) 0 rules);
                formed = i.sending.formed;
                queue =
                    by_channel
                    (λ channel q. channel < channels → Waits link channel (on link channel (g.accepted ++ (p ∷ []))) (on link channel g.sent) q)
                    (λ h. waits_here)
                    (λ channel n h. rw (on-other link channel g.accepted p (λ e. n (sym e))) (i.sending.queue channel h));
                few = λ channel c h.
                    by_channel (λ k q. k < channels → length (of_category c (held q)) ≤ 8)
                    (λ z. rw held-here (one_more c (category_of p) p refl (held (queue_at s (channel_for link p))) 8 (i.sending.few (channel_for link p) c here) (λ e. rw (← e) room)))
                    (λ k n z. i.sending.few k c z) channel h;
                small =
                    by_channel (λ k q. k < channels → all (affordable link) (held q) ≡ true)
                    (λ h. rw (held-here, all_snoc (affordable link) (held (queue_at s (channel_for link p))) p, i.sending.small (channel_for link p) here, pays))
                    (λ k n h. i.sending.small k h);
              };
          crediting = record { limit_is = i.crediting.limit_is; consumed_is = i.crediting.consumed_is; within = i.crediting.within };
          receiving = i.receiving;
          rooming = i.rooming;
          forth_ok = i.forth_ok;
          acks_ok = i.acks_ok;
          updates_ok = i.updates_ok;
        }
