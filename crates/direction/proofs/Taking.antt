-- Take keeps the direction: the packet leaves its channel's receive buffer, and its units are allocated again.
-- Assumes nothing.
use Prim.Native.Nat.{ℕ, ◌+◌, ◌*◌, ◌<◌}
use mathlib.Core.Path.{◌≡◌, sym, ◌∙◌}
use mathlib.Core.Logic.{◌≢◌, ◌⊎◌, by_cases}
use mathlib.Core.Bool.{true, not}
use mathlib.Core.List.{List, [], ◌∷◌, ◌++◌}
use native.Mathlib.Decide.{ℕ_discrete}
use native.Mathlib.Omega.{arith}
use lib.Dec.{eqb}
use lib.ListN.{length, take, drop}
use Rattle.basics.specs.Lists.{all}
use Rattle.basics.proofs.All.{all_snoc}
use Rattle.packets.specs.declared.Packet.{Packet}
use Rattle.packets.specs.declared.Category.{Category}
use Rattle.packets.specs.declared.Category.TheVariants.{Posted}
use Rattle.packets.specs.Packets.{packet_answer, category_of, need_of, slot_of}
use Rattle.packets.proofs.Numbers.{number_below}
use Rattle.credits.specs.declared.Room.{Room}
use Rattle.credits.specs.Credits.{given_back}
use Rattle.store.specs.Store.{held, at, is_of}
use Rattle.store.proofs.Held.{length-held}
use Rattle.store.proofs.Categories.{same-category}
use Rattle.line.specs.declared.Slot.{Slot}
use Rattle.setup.specs.declared.Setup.{Setup}
use Rattle.setup.specs.Setup.{channels, per_end}
use Rattle.sender.specs.declared.Sender.{Sender}
use Rattle.receiver.specs.declared.Receiver.{Receiver}
use Rattle.receiver.specs.Receiver.{inbox_at, room_at}
use Rattle.delivery.specs.Delivery.{handed_out}
use Rattle.receipts.proofs.Arrays.{arrays_handed}
use Rattle.receipts.proofs.Changes.{inbox_handed_other, room_handed_other, reply_handed, held_handed, len_handed, room_handed}
use Rattle.amounts.specs.Amounts.{wrapped, channel_for, on, slot_for, load, allowed}
use Rattle.amounts.proofs.Wrapped.{wrapped-added}
use Rattle.amounts.proofs.Loads.{on-other, allowed_same, allowed-other, allowed_grows}
use Rattle.traffic.proofs.Updates.{updates_more}
use Rattle.direction.proofs.Waits.{belongs-formed, belongs_channel, waits_own, waits_leave}
use Rattle.direction.specs.Direction.{Past, taking, arrived, Waits, Receiving, Rooming, Direction}

module _ {link : Setup} {g : Past} {s : Sender} {forth back : List Slot} {r : Receiver} (i : Direction link g s forth r back) (channel place : ℕ) (c : Category)
    (used : channel < link.n) (here : channel < channels) (within : place < length (held (inbox_at r channel)))
    (of-it : is_of c (at (inbox_at r channel) place) ≡ true)
    (first : all (λ p. not (is_of c p)) (take place (held (inbox_at r channel))) ≡ true)
    (in_order : (is_of Posted (at (inbox_at r channel) place) ≡ true) ⊎ (all (λ p. not (is_of Posted p)) (take place (held (inbox_at r channel))) ≡ true)) where
  abbrev it : Packet
  it = at (inbox_at r channel) place

  category-is : category_of it ≡ c
  category-is = same-category (category_of it) c of-it

  w : Waits link channel (on link channel (arrived g)) (on link channel g.taken) (inbox_at r channel)
  w = i.receiving.inbox channel here

  is_on_lem : channel_for link it ≡ channel
  is_on_lem = belongs_channel link channel it (waits_own place w within)

  slot_is : slot_for link it ≡ slot_of channel c
  slot_is = rw (is_on_lem, category-is)

  inside : place < (inbox_at r channel).len
  inside = omega (arith, length-held (inbox_at r channel) (i.r_arrays.inbox_is channel) w.bound)

  held-here : held (inbox_at (handed_out r channel c place) channel) ≡ take place (held (inbox_at r channel)) ++ drop (place + 1) (held (inbox_at r channel))
  held-here = held_handed r i.r_arrays channel here c place inside w.bound

  waits_here : Waits link channel (on link channel (arrived g)) (on link channel (g.taken ++ (it ∷ []))) (inbox_at (handed_out r channel c place) channel)
  waits_here =
      waits_leave link channel g.taken place w within (rw category-is first) in_order
      (len_handed r i.r_arrays channel here c place inside w.bound) held-here

  -- by slot: the one whose units are allocated again, or another
  by_slot_lem : (P : ℕ → Room → Type 0) → P (slot_of channel c) (given_back (room_at r (slot_of channel c)) (need_of it))
      → ((k : ℕ) → k ≢ slot_of channel c → P k (room_at r k)) → (k : ℕ) → P k (room_at (handed_out r channel c place) k)
  by_slot_lem P same others k =
      by_cases (ℕ_discrete k (slot_of channel c))
      (λ e. rw (e, room_handed r i.r_arrays channel here c place) same)
      (λ n. rw (room_handed_other r channel k c place n) (others k n))

  take-receiving : Receiving link (arrived g) (g.taken ++ (it ∷ [])) g.got (handed_out r channel c place)
  unfolding given_back
  take-receiving =
      record {
        next_is = rw (reply_handed r channel c place) i.receiving.next_is;
        inbox = λ k h.
            by_cases (ℕ_discrete k channel)
            (λ e. rw e waits_here)
            (λ n.
            rw (inbox_handed_other r channel k c place n, on-other link k g.taken it (λ e. n (sym e ∙ is_on_lem)))
            (i.receiving.inbox k h));
        known = rw (all_snoc (λ q. eqb (packet_answer q) 0) g.taken it, i.receiving.known, belongs-formed link channel it (waits_own place w within));
        marks =
            by_slot_lem (λ k x. k < per_end → x.marked ≡ true → k < 3 * link.n)
            (λ h m. omega (arith, number_below c))
            (λ k n h m. i.receiving.marks k h m);
      }

  take-rooming : Rooming link (arrived g) (g.taken ++ (it ∷ [])) (handed_out r channel c place)
  unfolding given_back
  take-rooming =
      record {
        allocated_is =
            by_slot_lem (λ k x. k < per_end → x.allocated ≡ wrapped (allowed link (g.taken ++ (it ∷ [])) k))
            (λ h.
            rw (rw slot_is at (allowed_same link g.taken it), i.rooming.allocated_is (slot_of channel c) h)
            (wrapped-added (allowed link g.taken (slot_of channel c)) it))
            (λ k n h. rw (allowed-other link g.taken it k (λ e. n (e ∙ slot_is))) (i.rooming.allocated_is k h));
        received_is =
            by_slot_lem (λ k x. k < per_end → x.received ≡ wrapped (load link (arrived g) k))
            (λ h. i.rooming.received_is (slot_of channel c) h)
            (λ k n h. i.rooming.received_is k h);
      }

  pub take-keeps : Direction link (taking g it) s forth (handed_out r channel c place) back
  take-keeps =
      record {
        s_arrays = i.s_arrays;
        r_arrays = arrays_handed r i.r_arrays channel c place;
        numbers = i.numbers;
        sending = i.sending;
        crediting = i.crediting;
        receiving = take-receiving;
        rooming = take-rooming;
        forth_ok = i.forth_ok;
        acks_ok = i.acks_ok;
        updates_ok = updates_more (allowed_grows link g.taken it) i.updates_ok;
      }
