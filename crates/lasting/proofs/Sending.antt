-- The sending half's part of the shape of an end: its rules one by one.
-- The arrays have their lengths (`Arrays`), as every value of the code has. Assumes nothing else.
use Rattle.std.specs.Prelude.{Some, None, Option, ℕ}
use Prim.Native.Nat.{ℕ, ◌+◌, ◌%◌, ◌<◌, ◌≤◌}
use mathlib.Core.Path.{◌≡◌, refl}
use mathlib.Core.Bool.{Bool, true, ◌&&◌}
use native.Mathlib.Omega.{arith}
use lib.Dec.{leb, ltb}
use lib.ListN.{length}
use Rattle.basics.specs.Lists.{all}
use Rattle.basics.proofs.Branches.{and_left, and_right}
use Rattle.counters.specs.Wrapped.{plus}
use Rattle.counters.specs.Counters.{data_range, seq_range}
use Rattle.credits.specs.declared.Credit.{Credit}
use Rattle.packets.specs.declared.Category.{Category}
use Rattle.store.specs.declared.Packets.{Packets}
use Rattle.store.specs.Store.{capacity, held, of_category}
use Rattle.setup.specs.declared.Setup.{Setup}
use Rattle.setup.specs.Setup.{channels, per_end}
use Rattle.sender.specs.declared.Sender.{Sender}
use Rattle.sender.specs.Sender.{queue_at, credit_at}
use Rattle.sender.specs.Sources.{buffer_bound}
use Rattle.sender.proofs.Arrays.{Arrays}
use Rattle.shape.specs.Shape.{of_each, queue_bound, is_on, all_on, well_formed, all_formed, credit_fits, sent_fit, numbers_run, place_in, replay_in}
use Rattle.basics.specs.Each.{each}
use Rattle.basics.proofs.Each.{each_at}
use Rattle.basics.proofs.Loops.{each_all}
use borrow.Author.Tests.{le-leb, leb-true, lt-ltb, ltb-true, eq-eqb, eqb-true}
use Rattle.packets.specs.declared.Category.TheVariants.{Posted, NonPosted, Completion}
use Rattle.frames.specs.Frames.{number_in_range}

-- ---- a queue

-- not over its bounds, and each packet on its channel and in form
pub record QueueKept (link : Setup) (channel : ℕ) (q : Packets) : Type 0 where
  pub bound : q.len ≤ capacity
  pub few : (c : Category) → length (of_category c (held q)) ≤ 8
  pub on : all (is_on link channel) (held q) ≡ true
  pub formed : all well_formed (held q) ≡ true

-- ---- the half

abbrev pub CreditFits : Credit → Type 0
CreditFits c = (c.limit.d.0 < data_range) × (c.consumed.d.0 < data_range)

pub record SendingKept (link : Setup) (s : Sender) : Type 0 where
  pub arrays : Arrays s
  pub queue : (channel : ℕ) → channel < channels → QueueKept link channel (queue_at s channel)
  pub credit : (slot : ℕ) → slot < per_end → CreditFits (credit_at s slot)
  pub buffer_bound_lem : s.buffer.len ≤ buffer_bound
  pub buffer_formed : all well_formed (held s.buffer) ≡ true
  pub next_fits : s.next.0 < seq_range
  pub acked_fits : s.acked.0 < seq_range
  pub count_fits : s.replay.count ≤ 3
  pub run : (s.acked.0 + 1 + s.buffer.len) % seq_range ≡ s.next.0
  pub replay_in_lem : (i : ℕ) → s.replay.at ≡ Some i → i < s.buffer.len

-- ---- from the rules of the shape

-- what holds of P, NP and C holds of each
pub each-category : (f : Category → Bool) → of_each f ≡ true → (c : Category) → f c ≡ true
each-category f t Posted = and_left (f Posted) (f NonPosted && f Completion) t
each-category f t NonPosted = and_left (f NonPosted) (f Completion) (and_right (f Posted) (f NonPosted && f Completion) t)
each-category f t Completion = and_right (f NonPosted) (f Completion) (and_right (f Posted) (f NonPosted && f Completion) t)

queue_parts : (link : Setup) (channel : ℕ) (q : Packets) → queue_bound q ≡ true → all_on link channel q ≡ true → all_formed q ≡ true → QueueKept link channel q
unfolding queue_bound
queue_parts link channel q bound on formed =
    let few : Category → Bool = λ c. leb (length (of_category c (held q))) 8 in
    record {
      bound = leb-true q.len capacity (and_left (leb q.len capacity) (of_each few) bound);
      few = λ c. leb-true _ 8 (each-category few (and_right (leb q.len capacity) (of_each few) bound) c);
      on = on;
      formed = formed;
    }

module _ (link : Setup) (s : Sender) where
  pub sending_parts : Arrays s
      → each channels (λ channel. queue_bound (queue_at s channel)) ≡ true
      → leb s.buffer.len buffer_bound ≡ true
      → each channels (λ channel. all_on link channel (queue_at s channel)) ≡ true
      → each channels (λ channel. all_formed (queue_at s channel)) ≡ true
      → all_formed s.buffer ≡ true
      → sent_fit s ≡ true
      → numbers_run s ≡ true
      → replay_in s ≡ true
      → SendingKept link s
  unfolding sent_fit numbers_run replay_in plus
  sending_parts a bound buffer on formed buffer_formed fit run replay =
      let credits = each per_end (λ slot. credit_fits (credit_at s slot)) in
      let next = number_in_range s.next in
      let acked = number_in_range s.acked in
      let count = leb s.replay.count 3 in
      let numbers = and_right credits (next && (acked && count)) fit in
      let later = and_right next (acked && count) numbers in
      record {
        arrays = a;
        queue = λ channel h.
            queue_parts link channel (queue_at s channel)
            (each_at channels (λ k. queue_bound (queue_at s k)) channel bound h)
            (each_at channels (λ k. all_on link k (queue_at s k)) channel on h)
            (each_at channels (λ k. all_formed (queue_at s k)) channel formed h);
        credit = λ slot h.
            let c = credit_at s slot in
            let both = each_at per_end (λ k. credit_fits (credit_at s k)) slot (and_left credits (next && (acked && count)) fit) h in (
              ltb-true _ _ (and_left (ltb c.limit.d.0 data_range) (ltb c.consumed.d.0 data_range) both),
              ltb-true _ _ (and_right (ltb c.limit.d.0 data_range) (ltb c.consumed.d.0 data_range) both),
            );
        buffer_bound_lem = leb-true s.buffer.len buffer_bound buffer;
        buffer_formed = buffer_formed;
        next_fits = ltb-true s.next.0 seq_range (and_left next (acked && count) numbers);
        acked_fits = ltb-true s.acked.0 seq_range (and_left acked count later);
        count_fits = leb-true s.replay.count 3 (and_right acked count later);
        run =
            let e : ((s.acked.0 + 1) % seq_range + s.buffer.len) % seq_range ≡ s.next.0 = eqb-true _ _ run in
            omega (arith, e);
        replay_in_lem = λ i e. ltb-true i s.buffer.len (rw e at replay);
      }

-- ---- and back

module _ {link : Setup} {s : Sender} (k : SendingKept link s) where
  pub queues_bound : each channels (λ channel. queue_bound (queue_at s channel)) ≡ true
  unfolding queue_bound
  queues_bound =
      each_all channels (λ channel. queue_bound (queue_at s channel))
      (λ channel h.
      let q = k.queue channel h in
      rw (le-leb _ _ q.bound, le-leb _ _ (q.few Posted), le-leb _ _ (q.few NonPosted), le-leb _ _ (q.few Completion)))

  pub queues_on : each channels (λ channel. all_on link channel (queue_at s channel)) ≡ true
  queues_on = each_all channels (λ channel. all_on link channel (queue_at s channel)) (λ channel h. (k.queue channel h).on)

  pub queues_formed : each channels (λ channel. all_formed (queue_at s channel)) ≡ true
  queues_formed = each_all channels (λ channel. all_formed (queue_at s channel)) (λ channel h. (k.queue channel h).formed)

  pub sent_fit_lem : sent_fit s ≡ true
  unfolding sent_fit
  sent_fit_lem =
      rw (
        each_all per_end (λ slot. credit_fits (credit_at s slot)) (λ slot h. rw (lt-ltb _ _ (k.credit slot h).0, lt-ltb _ _ (k.credit slot h).1)),
        lt-ltb _ _ k.next_fits,
        lt-ltb _ _ k.acked_fits,
        le-leb _ _ k.count_fits,
      )

  pub numbers_run_lem : numbers_run s ≡ true
  unfolding numbers_run plus
  numbers_run_lem =
      let e : ((s.acked.0 + 1) % seq_range + s.buffer.len) % seq_range ≡ s.next.0 = omega (arith, k.run) in
      eq-eqb _ _ e

  pub replay_inside : replay_in s ≡ true
  unfolding replay_in
  replay_inside = go s.replay.at refl
    where
      go : (at : Option ℕ) → s.replay.at ≡ at → place_in at s.buffer.len ≡ true
      go (Some i) e = lt-ltb i s.buffer.len (k.replay_in_lem i e)
      go None e = refl
