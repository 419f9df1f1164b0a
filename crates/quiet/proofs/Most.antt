-- The most that an end's burden can be, and the most that the frames on a line can weigh. Assumes nothing.
use Rattle.std.specs.Prelude.{Some, None, Option, ℕ}
use Prim.Native.Nat.{ℕ, zero, suc, ◌+◌, ◌*◌, ◌≤◌, ◌<◌}
use mathlib.Core.Path.{◌≡◌}
use mathlib.Core.Bool.{Bool}
use mathlib.Core.List.{List, [], ◌∷◌, ◌++◌}
use native.Mathlib.Nat.{le_refl, mul-suc}
use native.Mathlib.Omega.{arith}
use lib.ListN.{length}
use Rattle.basics.specs.Lists.{filter}
use Rattle.basics.proofs.Branches.{by_test}
use Rattle.basics.proofs.Totals.{total-append}
use Rattle.packets.specs.declared.Category.TheVariants.{Posted, NonPosted, Completion}
use Rattle.store.specs.Store.{held}
use Rattle.store.proofs.Held.{length-held}
use Rattle.orders.proofs.Orders.{count_parts}
use Rattle.frames.specs.declared.Frame.{Frame}
use Rattle.frames.specs.declared.Frame.TheVariants as Frame
use Rattle.line.specs.declared.Slot.{Slot}
use Rattle.line.specs.Line.{slot}
use Rattle.setup.specs.declared.Setup.{Setup}
use Rattle.setup.specs.Setup.{channels}
use Rattle.sender.specs.declared.Sender.{Sender}
use Rattle.sender.specs.Sender.{queue_at}
use Rattle.receiver.specs.declared.Receiver.{Receiver}
use Rattle.receiver.specs.Receiver.{is_marked}
use Rattle.receipts.proofs.Arrays.{Arrays}
use Rattle.direction.specs.Direction.{Past, Direction}
use Rattle.quiet.specs.Burden.{weight, weight_of, sum, queued, left, marks, burden}
use Rattle.quiet.proofs.Lightens.{owing-most}

-- ---- the parts

pub sum-most : (n m : ℕ) (f : ℕ → ℕ) → ((j : ℕ) → j < n → f j ≤ m) → sum n f ≤ m * n
unfolding sum
sum-most zero m f h = omega arith
sum-most (suc n) m f h = rw (mul-suc m n) (omega (arith, sum-most n m f (λ j k. h j (omega arith)), h n (omega arith)))

left-most : (x : Option ℕ) (len : ℕ) → left x len ≤ len
left-most (Some j) len = omega arith
left-most None len = omega arith

-- no more pass a test than there are
count_most : {A : Type 0} (ok : A → Bool) (l : List A) → length (filter ok l) ≤ length l
count_most ok [] = le_refl 0
count_most {A} ok (x ∷ l) =
    let h = count_most ok l in
    by_test (λ (m : List A). length m ≤ suc (length l)) (ok x) (λ t. omega arith) (λ t. omega arith)

pub marks-most : (r : Receiver) → Arrays r → marks r ≤ 3 * channels
unfolding marks
marks-most r a = omega (arith, count_most is_marked r.rooms, a.rooms_are)

-- ---- at an end: 24 packets in each channel's queue, 16 in the replay buffer, one reply, an update for each channel and category

module _ {link : Setup} {g : Past} {s : Sender} {forth back : List Slot} {q : Receiver} (i : Direction link g s forth q back) where
  -- 8 of each category
  queue-most : (channel : ℕ) → channel < channels → (queue_at s channel).len ≤ 24
  queue-most channel h =
      let p = queue_at s channel in
      omega (
        arith,
        length-held p (i.s_arrays.queue_is channel) (i.sending.queue channel h).bound,
        count_parts (held p),
        i.sending.few channel Posted h,
        i.sending.few channel NonPosted h,
        i.sending.few channel Completion h,
      )

  pub queued-most : queued s ≤ 24 * channels
  unfolding queued
  queued-most = sum-most channels 24 (λ channel. (queue_at s channel).len) queue-most

  pub burden-most : {r : Receiver} → Arrays r → burden s r ≤ 2 * (24 * channels) + 2 * 16 + 1 + 3 * channels
  unfolding burden
  burden-most {r} a =
      omega (
        arith,
        queued-most,
        left-most s.replay.at s.buffer.len,
        i.sending.buffer_len,
        i.numbers.high,
        owing-most r.reply.owed,
        marks-most r a,
      )

-- ---- on a line

weight-two : (f : Frame) → weight f ≤ 2
weight-two (Frame.Packet number p) = omega arith
weight-two (Frame.Message m) = omega arith

pub weight-most : (l : List Slot) → weight_of l ≤ 2 * length l
weight-most [] = omega arith
weight-most (x ∷ l) = omega (arith, weight-two x.frame, weight-most l)

pub weight-append : (l : List Slot) (f : Frame) → weight_of (l ++ (slot f ∷ [])) ≡ weight_of l + weight f
weight-append l f = omega (arith, total-append (λ x. weight x.frame) l (slot f ∷ []))
