-- A frame that an end puts on its line lowers the end's burden by the frame's weight. First laws of the sum and of the count of marks.
-- Assumes nothing.
use Rattle.std.specs.Prelude.{if◌then◌else◌, Some, None, Option, ℕ}
use Prim.Native.Nat.{ℕ, zero, suc, ◌+◌, ◌-◌, ◌<◌}
use mathlib.Core.Path.{◌≡◌, refl, sym, ap, ◌∙◌}
use mathlib.Core.Logic.{◌≢◌, ⊎_elim}
use mathlib.Core.Bool.{Bool, true, false}
use mathlib.Core.List.{List, [], ◌∷◌}
use native.Mathlib.Nat.{not-suc-le-zero, le_of_suc-le-suc, eq-or-lt_of_le}
use native.Mathlib.Omega.{arith}
use borrow.Author.Tests.{ltb-true, ltb-false}
use lib.Dec.{ltb}
use lib.ListN.{length, get_or, set}
use Rattle.basics.specs.Lists.{filter}
use Rattle.basics.proofs.Branches.{by_test}
use Rattle.basics.proofs.Finds.{found_first}
use Rattle.credits.specs.Credits.{none, room_of, unmarked}
use Rattle.store.proofs.Held.{length-held}
use Rattle.line.specs.declared.Slot.{Slot}
use Rattle.setup.specs.declared.Setup.{Setup}
use Rattle.setup.specs.Setup.{channels}
use Rattle.sender.specs.declared.Sender.{Sender}
use Rattle.sender.specs.declared.Replay.{Replay}
use Rattle.sender.specs.Sender.{queue_at}
use Rattle.sender.specs.Sources.{place_after, replayed, new_of, sent_new}
use Rattle.sender.proofs.Changes.{queue-sent-other, len_sent, replay-sent}
use Rattle.sender.proofs.Choosing.{new_channel, new_within}
use Rattle.receiver.specs.declared.Receiver.{Receiver}
use Rattle.receiver.specs.Receiver.{room_at, is_marked, first_marked, cleared, told}
use Rattle.direction.specs.Direction.{Past, Direction}
use Rattle.quiet.specs.Burden.{sum, queued, left, owing, marks, burden}

-- ---- sums

pub sum_same : (n : ℕ) (f g : ℕ → ℕ) → ((j : ℕ) → j < n → f j ≡ g j) → sum n f ≡ sum n g
unfolding sum
sum_same zero f g h = refl
sum_same (suc n) f g h = omega (arith, sum_same n f g (λ j k. h j (omega arith)), h n (omega arith))

-- one of them is one more
pub sum_one : (n : ℕ) (f g : ℕ → ℕ) (k : ℕ) → k < n → f k ≡ g k + 1 → ((j : ℕ) → j ≢ k → f j ≡ g j) → sum n f ≡ sum n g + 1
unfolding sum
sum_one zero f g k h here others = absurd (not-suc-le-zero h)
sum_one (suc n) f g k h here others =
    ⊎_elim
    (λ (e : k ≡ n).
    let low = sum_same n f g (λ j b. others j (omega arith)) in
    let top : f n ≡ g n + 1 = rw e at here in
    omega arith)
    (λ (b : k < n). omega (arith, sum_one n f g k b here others, others n (omega arith)))
    (eq-or-lt_of_le (le_of_suc-le-suc h))

-- ---- the elements that pass a test are counted, and one is replaced

module _ {A : Type 0} (ok : A → Bool) where
  -- how much one element adds to the count
  abbrev pub counted : A → ℕ
  counted x = if ok x then 1 else 0

  count_cons : (x : A) (l : List A) → length (filter ok (x ∷ l)) ≡ counted x + length (filter ok l)
  count_cons x l = go (ok x)
    where
      go : (t : Bool) → length (if t then x ∷ filter ok l else filter ok l) ≡ (if t then 1 else 0) + length (filter ok l)
      go true = omega arith
      go false = omega arith

  pub count_set : (l : List A) (k : ℕ) (x d : A) → k < length l
      → length (filter ok (set l k x)) + counted (get_or l k d) ≡ length (filter ok l) + counted x
  count_set [] k x d h = absurd (not-suc-le-zero h)
  count_set (y ∷ l) zero x d h = omega (arith, count_cons x l, count_cons y l)
  count_set (y ∷ l) (suc k) x d h =
      omega (arith, count_cons y (set l k x), count_cons y l, count_set l k x d (le_of_suc-le-suc h))

-- ---- what is left of a replay

left-none : {x : Option ℕ} → x ≡ None → (len : ℕ) → left x len ≡ 0
left-none e len = rw e

left_after : (j len : ℕ) → j < len → left (place_after j len) len + 1 ≡ len - j
left_after j len h =
    by_test (λ (x : Option ℕ). left x len + 1 ≡ len - j) (ltb (j + 1) len)
    (λ t. omega (arith, ltb-true (j + 1) len t))
    (λ t. omega (arith, ltb-false (j + 1) len t))

-- ---- a new packet

module _ {link : Setup} {g : Past} {s : Sender} {forth back : List Slot} {q : Receiver} (i : Direction link g s forth q back) where
  new_queued : (channel place : ℕ) → new_of s ≡ Some (channel, place) → queued (sent_new s channel place) + 1 ≡ queued s
  unfolding queued
  new_queued channel place new =
      let here = new_channel s channel place new in
      let w = i.sending.queue channel here in
      let long = length-held (queue_at s channel) (i.s_arrays.queue_is channel) w.bound in
      let within : place < (queue_at s channel).len = omega (arith, new_within s channel place new) in
      let after = len_sent s i.s_arrays channel here place within w.bound in
      sym
      (sum_one channels (λ k. (queue_at s k).len) (λ k. (queue_at (sent_new s channel place) k).len) channel here (omega arith)
      (λ k n. rw (queue-sent-other s channel k place n)))

  -- no replay runs, so it adds none to what is left of one
  pub new_burden : (channel place : ℕ) → new_of s ≡ Some (channel, place) → s.replay.at ≡ None → (r : Receiver)
      → burden (sent_new s channel place) r + 2 ≡ burden s r
  unfolding burden
  new_burden channel place new rests r =
      let still = ap (λ (x : Replay). x.at) (replay-sent s channel place) ∙ rests in
      omega (arith, new_queued channel place new, left-none rests s.buffer.len, left-none still (sent_new s channel place).buffer.len)

  -- ---- a packet of a replay

  pub again-burden : (j : ℕ) → s.replay.at ≡ Some j → (r : Receiver) → burden (replayed s j) r + 2 ≡ burden s r
  unfolding burden replayed queued
  again-burden j at r = rw at (omega (arith, left_after j s.buffer.len (i.sending.replay_in_lem j at)))

-- ---- a link message

-- an owed Ack or Nak
pub owed_burden : (s : Sender) (r : Receiver) → owing r.reply.owed ≡ 1 → burden s (cleared r) + 1 ≡ burden s r
unfolding burden cleared marks
owed_burden s r owes = omega arith

-- a marked update
pub update_burden : (s : Sender) (r : Receiver) (k : ℕ) → first_marked r ≡ Some k → burden s (told r k) + 1 ≡ burden s r
unfolding burden told marks unmarked
update_burden s r k first =
    let f = found_first (room_of none) is_marked r.rooms k first in
    let c = rw f.1 at (count_set is_marked r.rooms k (unmarked (room_at r k)) (room_of none) f.0) in
    omega (arith, c)
