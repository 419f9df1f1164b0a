-- An update that arrives at the sending half is accepted and keeps the direction: its amount lies between the limit stored and what is
-- allocated, and these lie at most the setup's units apart. Assumes nothing.
use Prim.Native.Nat.{ℕ, ◌<◌}
use mathlib.Core.Path.{◌≡◌, refl}
use mathlib.Core.Logic.{◌≢◌, by_cases}
use mathlib.Core.Bool.{true}
use mathlib.Core.List.{List, ◌∷◌}
use native.Mathlib.Decide.{ℕ_discrete}
use native.Mathlib.Omega.{arith}
use borrow.Author.Tests.{eq-eqb, ne_eqb}
use Rattle.counters.specs.declared.Counts.{Counts}
use Rattle.counters.specs.Counters.{update_answer}
use Rattle.packets.specs.declared.Category.{Category}
use Rattle.packets.specs.Packets.{slot_of}
use Rattle.credits.specs.declared.Credit.{Credit}
use Rattle.credits.specs.Credits.{updated}
use Rattle.frames.specs.declared.Message.TheVariants as Message
use Rattle.line.specs.declared.Slot.{Slot}
use Rattle.setup.specs.declared.Setup.{Setup}
use Rattle.setup.specs.Setup.{channels, per_end, in_range}
use Rattle.setup.proofs.Range.{few-channels}
use Rattle.sender.specs.declared.Sender.{Sender}
use Rattle.sender.specs.Sender.{credit_at, with_credit, told}
use Rattle.sender.proofs.Arrays.{Arrays}
use Rattle.sender.proofs.Slots.{slot_below}
use Rattle.hearing.specs.Hearing.{limited}
use Rattle.hearing.proofs.Heard.{limited-accepted, credit-limited, credit-limited-other, arrays_limited}
use Rattle.receiver.specs.declared.Receiver.{Receiver}
use Rattle.amounts.specs.Amounts.{Amount, Fits, wrapped, load, allowed}
use Rattle.amounts.proofs.Loads.{fits_trans, load-take}
use Rattle.amounts.proofs.Wrapped.{update_accepted}
use Rattle.traffic.specs.Traffic.{a_message, put}
use Rattle.traffic.proofs.Acks.{acks-rest}
use Rattle.traffic.proofs.Updates.{Limits, put_above, updates_heard}
use Rattle.direction.specs.Direction.{Past, limiting, Crediting, Direction}
use Rattle.direction.proofs.Bounds.{taken_fits, units_small}

-- it is of a channel in use, its true amount is accepted, and is the limit then
pub record Limited (link : Setup) (g : Past) (s : Sender) (forth : List Slot) (r : Receiver) (back : List Slot) (channel : ℕ) (c : Category) (x : Counts) : Type 0 where
  pub is : Amount
  pub used : channel < link.n
  pub low : Fits (g.limit (slot_of channel c)) is
  pub high : Fits is (allowed link g.taken (slot_of channel c))
  pub stored : x ≡ wrapped is
  pub says : limited s channel c x ≡ told (with_credit s (slot_of channel c) (updated (credit_at s (slot_of channel c)) x)) 0
  pub keeps : Direction link (limiting g (slot_of channel c) is) (with_credit s (slot_of channel c) (updated (credit_at s (slot_of channel c)) x)) forth r back

module _ {link : Setup} {g : Past} {s : Sender} {forth back : List Slot} {r : Receiver} (ok : in_range link ≡ true) {channel : ℕ} {c : Category} {x : Counts}
    (i : Direction link g s forth r (a_message (Message.Update channel c x) ∷ back)) where
  abbrev k : ℕ
  k = slot_of channel c

  -- the sender after it
  abbrev after : Sender
  after = with_credit s k (updated (credit_at s k) x)

  u : Limits link.n g.limit (allowed link g.taken) channel c x back
  u = updates_heard i.updates_ok

  here : channel < channels
  here = omega (arith, u.used, few-channels link ok)

  -- what is allocated is at most the setup's units ahead of the limit, as the limit is at least what was taken
  accepted : update_answer (credit_at s k).limit x ≡ 0
  unfolding allowed
  accepted =
      let units = units_small link ok channel c here in
      let t = taken_fits i channel c here in
      let n = load-take link g.got g.sent k in
      let w = i.crediting.within k in
      let a = u.high in
      let b = u.low in
      rw (i.crediting.limit_is k (slot_below channel c here), u.stored)
      (update_accepted (g.limit k) u.is b
      (omega (arith, a.h, units.0, t.h, n.h, w.h))
      (omega (arith, a.d, units.1, t.d, n.d, w.d)))

  says_so : limited s channel c x ≡ told after 0
  says_so = limited-accepted s channel c x here accepted

  new_arrays : Arrays after
  new_arrays = rw says_so at (arrays_limited s channel c x i.s_arrays)

  -- by slot: the one that it limits, or another
  by_slot_lem : (P : ℕ → Amount → Credit → Type 0) → P k u.is (updated (credit_at s k) x) → ((j : ℕ) → j ≢ k → P j (g.limit j) (credit_at s j))
      → (j : ℕ) → P j (put g.limit k u.is j) (credit_at after j)
  by_slot_lem P same others j =
      by_cases (ℕ_discrete j k)
      (λ e. rw (e, eq-eqb k k refl, rw says_so at (credit-limited s channel c x i.s_arrays here accepted)) same)
      (λ n. rw (ne_eqb j k n, rw says_so at (credit-limited-other s channel c x j n)) (others j n))

  new_crediting : Crediting link g.sent (put g.limit k u.is) after
  unfolding updated
  new_crediting =
      record {
        limit_is = by_slot_lem (λ j a y. j < per_end → y.limit ≡ wrapped a) (λ h. u.stored) (λ j n. i.crediting.limit_is j);
        consumed_is =
            by_slot_lem (λ j a y. j < per_end → y.consumed ≡ wrapped (load link g.sent j)) (i.crediting.consumed_is k) (λ j n. i.crediting.consumed_is j);
        within = λ j. fits_trans (i.crediting.within j) (put_above g.limit k u.is u.low j);
      }

  pub update_heard : Limited link g s forth r back channel c x
  update_heard =
      record {
        is = u.is;
        used = u.used;
        low = u.low;
        high = u.high;
        stored = u.stored;
        says = says_so;
        keeps =
            record {
              s_arrays = new_arrays;
              r_arrays = i.r_arrays;
              numbers = i.numbers;
              sending =
                  record {
                    next_is = i.sending.next_is;
                    acked_is = i.sending.acked_is;
                    buffer_is = i.sending.buffer_is;
                    buffer_len = i.sending.buffer_len;
                    replay_in_lem = i.sending.replay_in_lem;
                    count_fits = i.sending.count_fits;
                    known = i.sending.known;
                    formed = i.sending.formed;
                    queue = i.sending.queue;
                    few = i.sending.few;
                    small = i.sending.small;
                  };
              crediting = new_crediting;
              receiving = i.receiving;
              rooming = i.rooming;
              forth_ok = i.forth_ok;
              acks_ok = acks-rest i.acks_ok;
              updates_ok = u.rest;
            };
      }
