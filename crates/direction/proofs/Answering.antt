-- The receiving half puts a link message on the line back, or marks its updates: the direction is kept. Frames of the other direction pass.
-- Assumes nothing.
use Rattle.std.specs.Prelude.{Some}
use Prim.Native.Nat.{ℕ, ◌*◌, ◌%◌, ◌≤◌, ◌<◌}
use mathlib.Core.Path.{◌≡◌, refl, ap, ◌∙◌}
use mathlib.Core.Logic.{by_cases}
use mathlib.Core.Bool.{true}
use mathlib.Core.List.{List, [], ◌∷◌, ◌++◌}
use native.Mathlib.Decide.{ℕ_discrete}
use native.Mathlib.Omega.{arith}
use Rattle.basics.proofs.Each.{by_order_lem}
use Rattle.counters.specs.declared.Seq.{Seq}
use Rattle.counters.specs.Wrapped.{minus}
use Rattle.counters.specs.Counters.{seq, before_of}
use Rattle.packets.specs.declared.Packet.{Packet}
use Rattle.credits.specs.Credits.{unmarked}
use Rattle.frames.specs.declared.Frame.TheVariants as Frame
use Rattle.frames.specs.declared.Message.{Message}
use Rattle.line.specs.declared.Slot.{Slot}
use Rattle.line.specs.Line.{slot}
use Rattle.setup.specs.declared.Setup.{Setup}
use Rattle.setup.specs.Setup.{per_end, in_range}
use Rattle.setup.proofs.Range.{few-channels}
use Rattle.sender.specs.declared.Sender.{Sender}
use Rattle.receiver.specs.declared.Receiver.{Receiver}
use Rattle.receiver.specs.Receiver.{room_at, cleared, first_marked, channel_in, category_in, update_frame, told, refreshed}
use Rattle.receipts.proofs.Arrays.{arrays_told, arrays_refreshed}
use Rattle.receipts.proofs.Marks.{room-told, room-told-other, allocated_refreshed, received-refreshed, room-refreshed-other, first_marked_lem, channel_in_lem, slot_in_lem}
use Rattle.amounts.specs.Amounts.{allowed}
use Rattle.traffic.specs.Traffic.{Acks, Updates, a_message, up_to}
use Rattle.traffic.proofs.Acks.{acks-acked, acks_nak-sent, acks-updated, acks-other}
use Rattle.traffic.proofs.Updates.{updates_updated, updates_ack-sent, updates_nak-sent, updates_other}
use Rattle.direction.specs.Direction.{Past, Direction}
use Rattle.direction.proofs.Parts.{lines_keep, reply-keeps}

-- next-receive − 1, where `got` packets are received
before-got : (x : Seq) (got : ℕ) → x ≡ seq (got % 4096) → before_of x ≡ seq (up_to got)
unfolding minus
before-got x got e = rw e (ap seq (omega arith))

module _ {link : Setup} {g : Past} {s : Sender} {forth back : List Slot} {r : Receiver} (i : Direction link g s forth r back) where
  -- ---- an owed Ack or Nak

  number : before_of r.reply.next_receive ≡ seq (up_to g.got)
  number = before-got r.reply.next_receive g.got i.receiving.next_is

  -- nothing is owed any more, and the line back has one message more
  owed_keeps : (back' : List Slot) → Acks g.acked g.got back' → Updates link.n g.limit (allowed link g.taken) back'
      → Direction link g s forth (cleared r) back'
  unfolding cleared
  owed_keeps back' acks updates = lines_keep (reply-keeps i _ refl) i.forth_ok acks updates

  pub ack-keeps : Direction link g s forth (cleared r) (back ++ (a_message (Message.Ack (before_of r.reply.next_receive)) ∷ []))
  ack-keeps = owed_keeps _ (rw number (acks-acked i.acks_ok)) (updates_ack-sent (before_of r.reply.next_receive) i.updates_ok)

  pub nak-keeps : Direction link g s forth (cleared r) (back ++ (a_message (Message.Nak (before_of r.reply.next_receive)) ∷ []))
  nak-keeps = owed_keeps _ (rw number (acks_nak-sent i.acks_ok)) (updates_nak-sent (before_of r.reply.next_receive) i.updates_ok)

  -- ---- a marked update

  module _ (k : ℕ) (first : first_marked r ≡ Some k) where
    below : k < per_end
    below = (first_marked_lem r i.r_arrays k first).0

    used : channel_in k < link.n
    used = omega (arith, channel_in_lem k below, i.receiving.marks k below (first_marked_lem r i.r_arrays k first).1)

    pub update_keeps : Direction link g s forth (told r k) (back ++ (slot (update_frame r k) ∷ []))
    unfolding told update_frame unmarked
    update_keeps =
        let counts = i.rooming.allocated_is k below in
        let sent = rw (slot_in_lem k below, ← counts) at (updates_updated (channel_in k) (category_in k) used i.updates_ok) in
        record {
          s_arrays = i.s_arrays;
          r_arrays = arrays_told r i.r_arrays k;
          numbers = i.numbers;
          sending = i.sending;
          crediting = i.crediting;
          receiving =
              record {
                next_is = i.receiving.next_is;
                inbox = i.receiving.inbox;
                known = i.receiving.known;
                marks = λ j h m.
                    by_cases (ℕ_discrete j k)
                    (λ e. rw e (first_used))
                    (λ n. i.receiving.marks j h (rw (room-told-other r k j n) at m));
              };
          rooming =
              record {
                allocated_is = λ j h.
                    by_cases (ℕ_discrete j k)
                    (λ e. rw (e, room-told r k i.r_arrays below) counts)
                    (λ n. rw (room-told-other r k j n) (i.rooming.allocated_is j h));
                received_is = λ j h.
                    by_cases (ℕ_discrete j k)
                    (λ e. rw (e, room-told r k i.r_arrays below) (i.rooming.received_is k below))
                    (λ n. rw (room-told-other r k j n) (i.rooming.received_is j h));
              };
          forth_ok = i.forth_ok;
          acks_ok = acks-updated (channel_in k) (category_in k) (room_at r k).allocated i.acks_ok;
          updates_ok = sent;
        }
      where
        first_used : k < 3 * link.n
        first_used = i.receiving.marks k below (first_marked_lem r i.r_arrays k first).1

  -- ---- Refresh

  pub refresh-keeps : in_range link ≡ true → Direction link g s forth (refreshed r link.n) back
  unfolding refreshed
  refresh-keeps ok =
      let fits : 3 * link.n ≤ per_end = omega (arith, few-channels link ok) in
      record {
        s_arrays = i.s_arrays;
        r_arrays = arrays_refreshed r i.r_arrays link.n;
        numbers = i.numbers;
        sending = i.sending;
        crediting = i.crediting;
        receiving = record { next_is = i.receiving.next_is; inbox = i.receiving.inbox; known = i.receiving.known; marks = still fits };
        rooming =
            record {
              allocated_is = λ j h. allocated_refreshed r link.n i.r_arrays fits j ∙ i.rooming.allocated_is j h;
              received_is = λ j h. received-refreshed r link.n i.r_arrays fits j ∙ i.rooming.received_is j h;
            };
        forth_ok = i.forth_ok;
        acks_ok = i.acks_ok;
        updates_ok = i.updates_ok;
      }
    where
      still : 3 * link.n ≤ per_end → (j : ℕ) → j < per_end → (room_at (refreshed r link.n) j).marked ≡ true → j < 3 * link.n
      still fits j h m =
          by_order_lem j (3 * link.n) (λ z. z)
          (λ z. i.receiving.marks j h (rw (room-refreshed-other r link.n i.r_arrays fits j z) at m))

  -- ---- a packet of the other direction passes

  pub back_passed : (x : Seq) (p : Packet) → Direction link g s forth r (back ++ (slot (Frame.Packet x p) ∷ []))
  back_passed x p = lines_keep i i.forth_ok (acks-other x p i.acks_ok) (updates_other x p i.updates_ok)
