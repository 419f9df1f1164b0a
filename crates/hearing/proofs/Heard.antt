-- What a link message leaves at the sending half: what each answer says, what is held, and that the arrays keep their lengths.
-- Where it is said, the arrays have their lengths (`Arrays`), as every value of the code has. Assumes nothing else.
use Rattle.std.specs.Prelude.{if◌then◌else◌, Some, None}
use Prim.Native.Nat.{ℕ, ◌-◌, ◌+◌, ◌<◌, ◌≤◌}
use mathlib.Core.Path.{◌≡◌, refl, sym, ap, ◌∙◌}
use mathlib.Core.Logic.{◌≢◌}
use mathlib.Core.Bool.{Bool, true, false, ◌&&◌}
use native.Mathlib.Omega.{arith}
use borrow.Author.Tests.{lt-ltb, le-ltb, leb-true, eq-eqb, ne_eqb, eqb-false}
use lib.Dec.{leb, ltb, eqb}
use lib.ListN.{drop, length, length-set}
use lib.Seq.{get_or-set_same, get_or-set_other}
use Rattle.packets.specs.Packets.{slot_of}
use Rattle.basics.proofs.Branches.{by_test}
use Rattle.basics.proofs.Finds.{place_of, apart}
use Rattle.counters.specs.declared.Counts.{Counts}
use Rattle.counters.specs.declared.Seq.{Seq}
use Rattle.counters.specs.Wrapped.{within}
use Rattle.counters.specs.Counters.{ack_answer, update_answer}
use Rattle.credits.specs.declared.Credit.{Credit}
use Rattle.credits.specs.Credits.{none, credit_for, updated}
use Rattle.packets.specs.declared.Category.{Category}
use Rattle.frames.specs.declared.Message.{Message}
use Rattle.store.specs.Store.{capacity, held}
use Rattle.store.proofs.Held.{held-released, len_released, length-released}
use Rattle.setup.specs.Setup.{channels}
use Rattle.sender.specs.declared.Sender.{Sender}
use Rattle.sender.specs.Sender.{Told}
use Rattle.sender.specs.Sender.{credit_at, with_credit, with_replay, begun, told}
use Rattle.sender.proofs.Arrays.{Arrays, arrays_replay}
use Rattle.sender.proofs.Slots.{slot_below}
use Rattle.hearing.specs.Hearing.{releases, moved, acknowledged, again, answered, limited, hears}

-- ---- an accepted number is the last acknowledged or that of a packet in the buffer

pub accepted-releases : (s : Sender) (number : Seq) → ack_answer s.acked s.buffer.len number ≡ 0 → releases s number ≤ s.buffer.len
unfolding within
accepted-releases s number e = go (leb (releases s number) s.buffer.len) refl e
  where
    go : (b : Bool) → leb (releases s number) s.buffer.len ≡ b → ◌≡◌ {A = ℕ} (if b then 0 else 24) 0 → releases s number ≤ s.buffer.len
    go true t e = leb-true (releases s number) s.buffer.len t
    go false t e = absurd (omega arith)

-- ---- an Ack or Nak: accepted or refused

module _ (s : Sender) (number : Seq) (nak : Bool) where
  pub answered-accepted : ack_answer s.acked s.buffer.len number ≡ 0
      → answered s number nak ≡ told (if nak then again (acknowledged s number) else acknowledged s number) 0
  unfolding answered
  answered-accepted e = simp (answered, eq-eqb (ack_answer s.acked s.buffer.len number) 0 e)

  pub answered-refused : ack_answer s.acked s.buffer.len number ≢ 0 → answered s number nak ≡ told s 24
  unfolding answered
  answered-refused h = simp (answered, ne_eqb (ack_answer s.acked s.buffer.len number) 0 h)

-- ---- what is released

module _ (s : Sender) (a : Arrays s) (number : Seq) where
  module _ (enough : releases s number ≤ s.buffer.len) (bound : s.buffer.len ≤ capacity) where
    pub held-acknowledged : held (acknowledged s number).buffer ≡ drop (releases s number) (held s.buffer)
    unfolding acknowledged
    held-acknowledged = held-released s.buffer a.buffer_is (releases s number) enough bound

    pub len_acknowledged : (acknowledged s number).buffer.len ≡ s.buffer.len - releases s number
    unfolding acknowledged
    len_acknowledged = len_released s.buffer a.buffer_is (releases s number) enough bound

  pub arrays_acknowledged : Arrays (acknowledged s number)
  unfolding acknowledged
  arrays_acknowledged =
      record {
        queues_are = a.queues_are;
        credits_are = a.credits_are;
        buffer_is = length-released s.buffer a.buffer_is (releases s number) ∙ a.buffer_is;
        queue_is = a.queue_is;
      }

-- a running replay's next packet is one of those left
pub moved-within : (k left i j : ℕ) → i < left + k → moved k left (Some i) ≡ Some j → j < left
moved-within k left i j h e = go (leb k i) refl (eqb left 0) refl e
  where
    go : (b : Bool) → leb k i ≡ b → (z : Bool) → eqb left 0 ≡ z → (if b then Some (i - k) else if z then None else Some 0) ≡ Some j → j < left
    go true t z u e = let x : i - k ≡ j = ap place_of e in omega (arith, leb-true k i t)
    go false t true u e = apart j e
    go false t false u e = let x : ◌≡◌ {A = ℕ} 0 j = ap place_of e in omega (arith, eqb-false left 0 u)

pub arrays_again : (s : Sender) → Arrays s → Arrays (again s)
unfolding again
arrays_again s a = by_test Arrays (eqb s.buffer.len 0) (λ t. a) (λ t. arrays_replay s a (begun s.replay))

-- ---- an update: accepted or refused

module _ (s : Sender) (channel : ℕ) (c : Category) (limits : Counts) where
  abbrev now : Credit
  now = credit_at s (slot_of channel c)

  pub limited-accepted : channel < channels → update_answer now.limit limits ≡ 0
      → limited s channel c limits ≡ told (with_credit s (slot_of channel c) (updated now limits)) 0
  unfolding limited
  limited-accepted here e = simp (limited, lt-ltb channel channels here, eq-eqb (update_answer now.limit limits) 0 e)

  pub limited-refused : channel < channels → update_answer now.limit limits ≢ 0 → limited s channel c limits ≡ told s 25
  unfolding limited
  limited-refused here h = simp (limited, lt-ltb channel channels here, ne_eqb (update_answer now.limit limits) 0 h)

  pub limited-nowhere : channels ≤ channel → limited s channel c limits ≡ told s 25
  unfolding limited
  limited-nowhere h = simp (limited, le-ltb channel channels h)

  -- the credit of its channel and category, and all others
  pub credit-limited : Arrays s → channel < channels → update_answer now.limit limits ≡ 0
      → credit_at (limited s channel c limits).sender (slot_of channel c) ≡ updated now limits
  credit-limited a here e =
      rw (limited-accepted here e)
      (get_or-set_same s.credits (slot_of channel c) (updated now limits) (credit_for none) (omega (arith, a.credits_are, slot_below channel c here)))

  pub credit-limited-other : (k : ℕ) → k ≢ slot_of channel c → credit_at (limited s channel c limits).sender k ≡ credit_at s k
  unfolding limited
  credit-limited-other k h =
      by_test (λ (t : Told). credit_at t.sender k ≡ credit_at s k) (ltb channel channels && eqb (update_answer now.limit limits) 0)
      (λ t. get_or-set_other s.credits (slot_of channel c) k (updated now limits) (credit_for none) h)
      (λ t. refl)

  pub arrays_limited : Arrays s → Arrays (limited s channel c limits).sender
  unfolding limited
  arrays_limited a =
      by_test (λ (t : Told). Arrays t.sender) (ltb channel channels && eqb (update_answer now.limit limits) 0)
      (λ t.
      record {
        queues_are = a.queues_are;
        credits_are = length-set s.credits (slot_of channel c) (updated now limits) ∙ a.credits_are;
        buffer_is = a.buffer_is;
        queue_is = a.queue_is;
      })
      (λ t. a)

-- ---- every message

pub arrays_answered : (s : Sender) (number : Seq) (nak : Bool) → Arrays s → Arrays (answered s number nak).sender
unfolding answered
arrays_answered s number nak a =
    by_test (λ (t : Told). Arrays t.sender) (eqb (ack_answer s.acked s.buffer.len number) 0)
    (λ t.
    by_test Arrays nak
    (λ u. arrays_again (acknowledged s number) (arrays_acknowledged s a number))
    (λ u. arrays_acknowledged s a number))
    (λ t. a)

pub arrays_heard : (s : Sender) (m : Message) → Arrays s → Arrays (hears s m).sender
unfolding hears
arrays_heard s (Message.Ack number) a = arrays_answered s number false a
arrays_heard s (Message.Nak number) a = arrays_answered s number true a
arrays_heard s (Message.Update channel c limits) a = arrays_limited s channel c limits a

-- ---- what no message changes: the queues and the next number; and an Ack or Nak changes no credit

-- a part that neither the release nor a start changes
answered-keeps : {A : Type 0} (part : Sender → A) (s : Sender) (number : Seq) (nak : Bool) → part (acknowledged s number) ≡ part s
    → ((t : Sender) → part (with_replay t (begun t.replay)) ≡ part t) → part (answered s number nak).sender ≡ part s
unfolding answered again
answered-keeps part s number nak freed started =
    by_test (λ (t : Told). part t.sender ≡ part s) (eqb (ack_answer s.acked s.buffer.len number) 0)
    (λ t.
    by_test (λ (r : Sender). part r ≡ part s) nak
    (λ u.
    by_test (λ (r : Sender). part r ≡ part s) (eqb (acknowledged s number).buffer.len 0)
    (λ v. freed)
    (λ v. started (acknowledged s number) ∙ freed))
    (λ u. freed))
    (λ t. refl)

-- a part that a stored credit does not change
limited-keeps : {A : Type 0} (part : Sender → A) (s : Sender) (channel : ℕ) (c : Category) (limits : Counts)
    → ((k : ℕ) (x : Credit) → part (with_credit s k x) ≡ part s) → part (limited s channel c limits).sender ≡ part s
unfolding limited
limited-keeps part s channel c limits same =
    by_test (λ (t : Told). part t.sender ≡ part s)
    (ltb channel channels && eqb (update_answer (credit_at s (slot_of channel c)).limit limits) 0)
    (λ t. same (slot_of channel c) (updated (credit_at s (slot_of channel c)) limits))
    (λ t. refl)

pub queues_heard : (s : Sender) (m : Message) → (hears s m).sender.queues ≡ s.queues
unfolding hears acknowledged
queues_heard s (Message.Ack number) = answered-keeps (λ t. t.queues) s number false refl (λ t. refl)
queues_heard s (Message.Nak number) = answered-keeps (λ t. t.queues) s number true refl (λ t. refl)
queues_heard s (Message.Update channel c limits) = limited-keeps (λ t. t.queues) s channel c limits (λ k x. refl)

pub next-heard : (s : Sender) (m : Message) → (hears s m).sender.next ≡ s.next
unfolding hears acknowledged
next-heard s (Message.Ack number) = answered-keeps (λ t. t.next) s number false refl (λ t. refl)
next-heard s (Message.Nak number) = answered-keeps (λ t. t.next) s number true refl (λ t. refl)
next-heard s (Message.Update channel c limits) = limited-keeps (λ t. t.next) s channel c limits (λ k x. refl)

pub credits_answered : (s : Sender) (number : Seq) (nak : Bool) → (answered s number nak).sender.credits ≡ s.credits
unfolding acknowledged
credits_answered s number nak = answered-keeps (λ t. t.credits) s number nak refl (λ t. refl)

pub credits_heard : (s : Sender) (m : Message) → Arrays s → length (hears s m).sender.credits ≡ length s.credits
credits_heard s m a = (arrays_heard s m a).credits_are ∙ sym a.credits_are

-- an update changes neither the buffer nor what was acknowledged nor the replay
module _ (s : Sender) (channel : ℕ) (c : Category) (limits : Counts) where
  pub buffer_limited : (limited s channel c limits).sender.buffer ≡ s.buffer
  buffer_limited = limited-keeps (λ t. t.buffer) s channel c limits (λ k x. refl)

  pub acked-limited : (limited s channel c limits).sender.acked ≡ s.acked
  acked-limited = limited-keeps (λ t. t.acked) s channel c limits (λ k x. refl)

  pub replay-limited : (limited s channel c limits).sender.replay ≡ s.replay
  replay-limited = limited-keeps (λ t. t.replay) s channel c limits (λ k x. refl)
