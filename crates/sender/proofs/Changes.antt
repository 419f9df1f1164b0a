-- What a sending half holds after each change: its queues, its credits, its replay buffer and its replay.
-- Where it is said, its arrays have their lengths (`Arrays`), as every value of the code has. Assumes nothing else.
use Rattle.std.specs.Prelude.{if◌then◌else◌, Some, None}
use Prim.Native.Nat.{ℕ, ◌+◌, ◌-◌, ◌<◌, ◌≤◌}
use mathlib.Core.Path.{◌≡◌, refl, sym, ap, ◌∙◌}
use mathlib.Core.Logic.{◌≢◌}
use mathlib.Core.Bool.{Bool, true, false}
use mathlib.Core.List.{[], ◌∷◌, ◌++◌}
use native.Mathlib.Omega.{arith}
use borrow.Author.Tests.{lt-ltb, ltb-true, eq-eqb, ne_eqb}
use lib.Dec.{ltb}
use lib.ListN.{get_or, take, drop, get_or-map}
use lib.Seq.{get_or-drop, get_or-set_same, get_or-set_other}
use Rattle.basics.proofs.Branches.{by_test}
use Rattle.basics.proofs.Finds.{place_of, apart}
use Rattle.basics.proofs.Places.{get_or-same}
use Rattle.counters.specs.Counters.{next_of}
use Rattle.credits.specs.Credits.{none, credit_for, advertised, spent}
use Rattle.packets.specs.declared.Packet.{Packet}
use Rattle.packets.specs.Packets.{category_of, need_of, slot_of}
use Rattle.store.specs.Store.{capacity, empty, held, pushed, removed}
use Rattle.store.proofs.Held.{held-pushed, len_pushed, held-removed, len_removed}
use Rattle.setup.specs.declared.Setup.{Setup}
use Rattle.setup.specs.Setup.{channels, per_end, no_units}
use Rattle.sender.specs.declared.Replay.{Replay}
use Rattle.sender.specs.declared.Sender.{Sender}
use Rattle.sender.specs.Sender.{credit_of, start_of, queue_at, credit_at, with_replay, submitted, begun, told, timer_of}
use Rattle.sender.specs.Sources.{place_after, replayed, new_packet, sent_new}
use Rattle.sender.proofs.Arrays.{Arrays}
use Rattle.packets.proofs.Numbers.{number_below}

-- ---- the start: nothing waits, and each credit is what the other end's setup gives

pub queue-start : (link : Setup) (channel : ℕ) → queue_at (start_of link) channel ≡ empty
unfolding start_of
queue-start link channel = get_or-same channels channel empty

pub credit-start : (link : Setup) (slot : ℕ) → credit_at (start_of link) slot ≡ credit_of (get_or link.units (per_end + slot) no_units)
unfolding start_of advertised
credit-start link slot =
    get_or-map credit_of (drop per_end link.units) slot no_units
    ∙ ap credit_of (get_or-drop per_end link.units slot no_units)

-- ---- other channels and other slots stay as they were

module _ (s : Sender) (channel k : ℕ) where
  pub queue-submitted-other : (p : Packet) → k ≢ channel → queue_at (submitted s channel p) k ≡ queue_at s k
  unfolding submitted
  queue-submitted-other p h = get_or-set_other s.queues channel k (pushed (queue_at s channel) p) empty h

  pub queue-sent-other : (place : ℕ) → k ≢ channel → queue_at (sent_new s channel place) k ≡ queue_at s k
  unfolding sent_new
  queue-sent-other place h =
      by_test (λ (r : Sender). queue_at r k ≡ queue_at s k) (ltb channel channels)
      (λ t. get_or-set_other s.queues channel k _ empty h)
      (λ t. refl)

  pub credit-sent-other : (place : ℕ) → k ≢ slot_of channel (category_of (new_packet s channel place))
      → credit_at (sent_new s channel place) k ≡ credit_at s k
  unfolding sent_new
  credit-sent-other place h =
      by_test (λ (r : Sender). credit_at r k ≡ credit_at s k) (ltb channel channels)
      (λ t. get_or-set_other s.credits (slot_of channel (category_of (new_packet s channel place))) k _ (credit_for none) h)
      (λ t. refl)

-- ---- the channel and the slot that change

module _ (s : Sender) (a : Arrays s) (channel : ℕ) (here : channel < channels) where
  module _ (p : Packet) where
    pub queue-submitted : queue_at (submitted s channel p) channel ≡ pushed (queue_at s channel) p
    unfolding submitted
    queue-submitted = get_or-set_same s.queues channel (pushed (queue_at s channel) p) empty (omega (arith, a.queues_are))

    module _ (room : (queue_at s channel).len < capacity) where
      pub held-submitted : held (queue_at (submitted s channel p) channel) ≡ held (queue_at s channel) ++ (p ∷ [])
      held-submitted = rw queue-submitted (held-pushed (queue_at s channel) (a.queue_is channel) p room)

      pub len_submitted : (queue_at (submitted s channel p) channel).len ≡ (queue_at s channel).len + 1
      len_submitted = rw queue-submitted (len_pushed (queue_at s channel) (a.queue_is channel) p room)

  module _ (place : ℕ) where
    abbrev it : Packet
    it = new_packet s channel place

    pub queue-sent : queue_at (sent_new s channel place) channel ≡ removed (queue_at s channel) place
    unfolding sent_new
    queue-sent =
        simp (sent_new, lt-ltb channel channels here)
        (get_or-set_same s.queues channel (removed (queue_at s channel) place) empty (omega (arith, a.queues_are)))

    module _ (within : place < (queue_at s channel).len) (bound : (queue_at s channel).len ≤ capacity) where
      pub held-sent : held (queue_at (sent_new s channel place) channel)
          ≡ take place (held (queue_at s channel)) ++ drop (place + 1) (held (queue_at s channel))
      held-sent = rw queue-sent (held-removed (queue_at s channel) (a.queue_is channel) place within bound)

      pub len_sent : (queue_at (sent_new s channel place) channel).len ≡ (queue_at s channel).len - 1
      len_sent = rw queue-sent (len_removed (queue_at s channel) (a.queue_is channel) place within bound)

    -- it adds to consumed
    pub credit-sent : credit_at (sent_new s channel place) (slot_of channel (category_of it)) ≡ spent (credit_at s (slot_of channel (category_of it))) (need_of it)
    unfolding sent_new
    credit-sent =
        simp (sent_new, lt-ltb channel channels here)
        (get_or-set_same s.credits (slot_of channel (category_of it)) _ (credit_for none) (omega (arith, a.credits_are, number_below (category_of it))))

    -- it enters the replay buffer
    pub buffer_sent : (sent_new s channel place).buffer ≡ pushed s.buffer it
    unfolding sent_new
    buffer_sent = simp (sent_new, lt-ltb channel channels here)

    module _ (room : s.buffer.len < capacity) where
      pub held_buffer_sent : held (sent_new s channel place).buffer ≡ held s.buffer ++ (it ∷ [])
      held_buffer_sent = rw buffer_sent (held-pushed s.buffer a.buffer_is it room)

      pub len_buffer_sent : (sent_new s channel place).buffer.len ≡ s.buffer.len + 1
      len_buffer_sent = rw buffer_sent (len_pushed s.buffer a.buffer_is it room)

-- it takes the next number; what was acknowledged and the replay stay as they were
module _ (s : Sender) (channel place : ℕ) where
  pub next-sent : channel < channels → (sent_new s channel place).next ≡ next_of s.next
  unfolding sent_new
  next-sent here = simp (sent_new, lt-ltb channel channels here)

  pub acked-sent : (sent_new s channel place).acked ≡ s.acked
  unfolding sent_new
  acked-sent = by_test (λ (r : Sender). r.acked ≡ s.acked) (ltb channel channels) (λ t. refl) (λ t. refl)

  pub replay-sent : (sent_new s channel place).replay ≡ s.replay
  unfolding sent_new
  replay-sent = by_test (λ (r : Sender). r.replay ≡ s.replay) (ltb channel channels) (λ t. refl) (λ t. refl)

-- ---- a replay adds to no counter, and changes no queue and no buffer

pub only_replayed : (s : Sender) (i : ℕ) → replayed s i ≡ with_replay s (replayed s i).replay
unfolding replayed
only_replayed s i = refl

-- its next packet is the one after, while there is one
pub place_after_lem : (i len j : ℕ) → place_after i len ≡ Some j → (j ≡ i + 1) × (j < len)
place_after_lem i len j e = go (ltb (i + 1) len) refl e
  where
    go : (b : Bool) → ltb (i + 1) len ≡ b → (if b then Some (i + 1) else None) ≡ Some j → (j ≡ i + 1) × (j < len)
    go true t e = let k : i + 1 ≡ j = ap place_of e in (sym k, omega (arith, ltb-true (i + 1) len t))
    go false t e = apart j e

-- ---- a start: at the oldest, with a count of at most 3

pub begun-at : (r : Replay) → (begun r).at ≡ Some 0
unfolding begun
begun-at r = by_test (λ (x : Replay). x.at ≡ Some 0) (ltb r.count 3) (λ t. refl) (λ t. refl)

pub begun-count : (r : Replay) → (begun r).count ≤ 3
unfolding begun
begun-count r = by_test (λ (x : Replay). x.count ≤ 3) (ltb r.count 3) (λ t. omega (arith, ltb-true r.count 3 t)) (λ t. omega arith)

pub timer-refused : (s : Sender) → s.buffer.len ≡ 0 → timer_of s ≡ told s 23
unfolding timer_of
timer-refused s e = simp (timer_of, eq-eqb s.buffer.len 0 e)

pub timer_starts : (s : Sender) → s.buffer.len ≢ 0 → timer_of s ≡ told (with_replay s (begun s.replay)) 0
unfolding timer_of
timer_starts s h = simp (timer_of, ne_eqb s.buffer.len 0 h)
