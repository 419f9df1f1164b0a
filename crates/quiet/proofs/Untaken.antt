-- The packets untaken are those that wait at the receiver, are on the way, or wait to be sent. Of a direction at rest with some untaken the Takes
-- take at least one. Assumes nothing.
use Rattle.std.specs.Prelude.{None, Some}
use Prim.Native.Nat.{ℕ, zero, suc, pred, ◌+◌, ◌-◌, ◌≤◌, ◌<◌}
use mathlib.Core.Path.{◌≡◌, refl, sym, ap, ◌∙◌}
use mathlib.Core.Logic.{by_cases}
use mathlib.Core.Bool.{true}
use mathlib.Core.List.{List, [], ◌∷◌, ◌++◌, append-nil}
use native.Mathlib.Decide.{ℕ_discrete}
use native.Mathlib.Omega.{arith}
use native.Mathlib.Nat.{zero-add, not-suc-le-zero, le_refl, eq-or-lt_of_le, le_of_suc-le-suc}
use mathlib.Core.Logic.{⊎_elim}
use lib.ListN.{length, length-append}
use Rattle.packets.specs.declared.Packet.{Packet}
use Rattle.packets.specs.declared.Category.{Category}
use Rattle.packets.specs.declared.Category.TheVariants.{Posted, NonPosted, Completion}
use Rattle.store.specs.Store.{held, of_category}
use Rattle.line.specs.declared.Slot.{Slot}
use Rattle.setup.specs.declared.Setup.{Setup}
use Rattle.setup.specs.Setup.{channels, in_range}
use Rattle.sender.specs.declared.Sender.{Sender}
use Rattle.sender.specs.Sender.{queue_at}
use Rattle.sender.specs.Sources.{new_of}
use Rattle.receiver.specs.declared.Receiver.{Receiver}
use Rattle.receiver.specs.declared.Owed.TheVariants as Owed
use Rattle.receiver.specs.Receiver.{inbox_at, first_marked}
use Rattle.orders.proofs.Orders.{count_parts}
use Rattle.amounts.specs.Amounts.{on}
use Rattle.direction.specs.Direction.{Past, on_the_way, Direction}
use Rattle.direction.proofs.Whole.{all_there}
use Rattle.quiet.specs.Quiet.{Live}
use Rattle.quiet.specs.Burden.{sum}
use Rattle.quiet.specs.Untaken.{untaken_of}
use Rattle.quiet.proofs.Burden.{sum_same}
use Rattle.quiet.proofs.CaughtUp.{none-on_the_way}
use Rattle.quiet.proofs.Eligible.{queue-empty}

-- ---- sums

pub sum-plus : (n : ℕ) (f g : ℕ → ℕ) → sum n (λ j. f j + g j) ≡ sum n f + sum n g
unfolding sum
sum-plus zero f g = refl
sum-plus (suc n) f g = omega (arith, sum-plus n f g)

-- a sum that is nothing is of nothing
pub sum-none : (n : ℕ) (f : ℕ → ℕ) → sum n f ≡ 0 → (j : ℕ) → j < n → f j ≡ 0
unfolding sum
sum-none zero f e j h = absurd (not-suc-le-zero h)
sum-none (suc n) f e j h =
    ⊎_elim (λ (z : j ≡ n). rw z (omega arith)) (λ (z : j < n). sum-none n f (omega arith) j z) (eq-or-lt_of_le (le_of_suc-le-suc h))

pub none-sum : (n : ℕ) (f : ℕ → ℕ) → ((j : ℕ) → j < n → f j ≡ 0) → sum n f ≡ 0
unfolding sum
none-sum zero f h = refl
none-sum (suc n) f h = omega (arith, none-sum n f (λ j z. h j (omega arith)), h n (le_refl (suc n)))

empty-list : (l : List Packet) → length l ≡ 0 → l ≡ []
empty-list [] e = refl
empty-list (x ∷ l) e = absurd (omega arith)

-- ---- a direction

module _ {link : Setup} {g : Past} {s : Sender} {forth back : List Slot} {r : Receiver} (i : Direction link g s forth r back) where
  -- by category, in numbers
  parts : (channel : ℕ) → channel < channels → (c : Category)
      → length (of_category c (on link channel g.taken)) + length (of_category c (held (inbox_at r channel))) + length (of_category c (on link channel (on_the_way g)))
      + length (of_category c (held (queue_at s channel)))
      ≡ length (of_category c (on link channel g.accepted))
  parts channel h c = simp length-append at (ap length (all_there i channel h c))

  pub counted : (channel : ℕ) → channel < channels
      → length (on link channel g.accepted)
      ≡ length (on link channel g.taken) + (length (held (inbox_at r channel)) + length (on link channel (on_the_way g)) + length (held (queue_at s channel)))
  counted channel h =
      omega (
        arith,
        parts channel h Posted,
        parts channel h NonPosted,
        parts channel h Completion,
        count_parts (on link channel g.accepted),
        count_parts (on link channel g.taken),
        count_parts (held (inbox_at r channel)),
        count_parts (on link channel (on_the_way g)),
        count_parts (held (queue_at s channel)),
      )

  pub untaken-is : untaken_of link g.accepted g.taken
      ≡ sum channels (λ channel. length (held (inbox_at r channel)) + length (on link channel (on_the_way g)) + length (held (queue_at s channel)))
  unfolding untaken_of
  untaken-is =
      sum_same channels (λ channel. length (on link channel g.accepted) - length (on link channel g.taken))
      (λ channel. length (held (inbox_at r channel)) + length (on link channel (on_the_way g)) + length (held (queue_at s channel)))
      (λ channel h. omega (arith, counted channel h))

  -- where nothing is on the way
  pub untaken_still : on_the_way g ≡ [] → untaken_of link g.accepted g.taken
      ≡ sum channels (λ channel. length (held (inbox_at r channel))) + sum channels (λ channel. length (held (queue_at s channel)))
  untaken_still none =
      untaken-is
      ∙ sum_same channels (λ channel. length (held (inbox_at r channel)) + length (on link channel (on_the_way g)) + length (held (queue_at s channel)))
      (λ channel. length (held (inbox_at r channel)) + length (held (queue_at s channel)))
      (λ channel h. rw none (omega arith))
      ∙ sum-plus channels (λ channel. length (held (inbox_at r channel))) (λ channel. length (held (queue_at s channel)))

  -- none untaken: each list of taken packets is that of the accepted ones
  pub all-taken : untaken_of link g.accepted g.taken ≡ 0 → (channel : ℕ) → channel < channels → (c : Category)
      → of_category c (on link channel g.taken) ≡ of_category c (on link channel g.accepted)
  all-taken e channel h c =
      let z = sum-none channels (λ k. length (held (inbox_at r k)) + length (on link k (on_the_way g)) + length (held (queue_at s k))) (sym untaken-is ∙ e) channel h in
      let x : held (inbox_at r channel) ≡ [] = empty-list _ (omega arith) in
      let y : on link channel (on_the_way g) ≡ [] = empty-list _ (omega arith) in
      let w : held (queue_at s channel) ≡ [] = empty-list _ (omega arith) in
      simp (x, y, w, append-nil) at (all_there i channel h c)

-- ---- at rest, and after the Takes: fewer are untaken, or none was

module _ {link : Setup} {g g' : Past} {s : Sender} {r r' : Receiver} (ok : in_range link ≡ true) (i : Direction link g s [] r []) (l : Live 0 link g s [] r [])
    (rests : s.replay.at ≡ None) (none_owed : r.reply.owed ≡ Owed.Nothing) (unmarked : first_marked r ≡ None) (idle : new_of s ≡ None)
    (j : Direction link g' s [] r' []) (still : on_the_way g' ≡ []) (empty : (channel : ℕ) → channel < channels → held (inbox_at r' channel) ≡ []) where
  inboxes : ℕ
  inboxes = sum channels (λ channel. length (held (inbox_at r channel)))

  queues : ℕ
  queues = sum channels (λ channel. length (held (queue_at s channel)))

  before : untaken_of link g.accepted g.taken ≡ inboxes + queues
  unfolding inboxes queues
  before = untaken_still i (none-on_the_way ok i l rests none_owed unmarked)

  after : untaken_of link g'.accepted g'.taken ≡ queues
  unfolding queues
  after =
      untaken_still j still
      ∙ rw (none-sum channels (λ channel. length (held (inbox_at r' channel))) (λ channel h. rw (empty channel h))) (zero-add (sum channels (λ channel. length (held (queue_at s channel)))))

  -- where nothing waits at the receiver, nothing waits to be sent
  none_left : inboxes ≡ 0 → queues ≡ 0
  unfolding inboxes queues
  none_left e =
      none-sum channels (λ channel. length (held (queue_at s channel)))
      (λ channel h.
      rw (queue-empty ok i l rests none_owed unmarked idle (λ k z. empty-list _ (sum-none channels (λ c. length (held (inbox_at r c))) e k z)) channel h))

  pub fewer : untaken_of link g'.accepted g'.taken ≤ pred (untaken_of link g.accepted g.taken)
  fewer = by_cases (ℕ_discrete inboxes 0) (λ e. omega (arith, before, after, none_left e)) (λ n. omega (arith, before, after))
