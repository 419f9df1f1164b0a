-- A link message that arrives at the sending half is accepted and keeps the direction; so does a frame that leaves the line back unheard.
-- Here an Ack, a Nak, a replay's start and any message; an update alone stands in Limits. Assumes nothing.
use Rattle.std.specs.Prelude.{if◌then◌else◌, Some, None, Option, ℕ}
use Prim.Native.Nat.{ℕ, ◌+◌, ◌-◌, ◌≤◌, ◌<◌}
use mathlib.Core.Path.{◌≡◌, refl, sym, ap, ◌∙◌}
use mathlib.Core.Logic.{◌≢◌}
use mathlib.Core.Bool.{Bool, true, false}
use mathlib.Core.List.{List, ◌∷◌}
use native.Mathlib.Omega.{arith}
use borrow.Author.Tests.{le-leb, eqb-false}
use lib.Dec.{eqb}
use lib.ListN.{length, drop}
use lib.Seq.{drop-drop}
use Rattle.basics.proofs.Branches.{by_test}
use Rattle.basics.proofs.Finds.{place_of, apart}
use Rattle.counters.specs.declared.Seq.{Seq}
use Rattle.counters.specs.Wrapped.{within}
use Rattle.counters.specs.Counters.{seq, ack_answer}
use Rattle.counters.proofs.Wrap.{minus_ahead}
use Rattle.frames.specs.declared.Message.{Message}
use Rattle.store.specs.Store.{capacity, held}
use Rattle.line.specs.declared.Slot.{Slot}
use Rattle.setup.specs.declared.Setup.{Setup}
use Rattle.setup.specs.Setup.{in_range}
use Rattle.sender.specs.declared.Sender.{Sender}
use Rattle.sender.specs.Sender.{with_replay, begun, told}
use Rattle.sender.proofs.Changes.{begun-at, begun-count}
use Rattle.hearing.specs.Hearing.{releases, moved, acknowledged, again, answered, hears}
use Rattle.hearing.proofs.Heard.{answered-accepted, held-acknowledged, len_acknowledged, arrays_acknowledged, moved-within}
use Rattle.receiver.specs.declared.Receiver.{Receiver}
use Rattle.amounts.specs.Amounts.{Amount}
use Rattle.traffic.specs.Traffic.{a_message, up_to}
use Rattle.traffic.proofs.Acks as Acks
use Rattle.traffic.proofs.Updates.{updates_rest}
use Rattle.direction.specs.Direction.{Past, acking, Direction}
use Rattle.direction.proofs.Bounds.{buffer_few}
use Rattle.direction.proofs.Parts.{lines_keep, replay-keeps}
use Rattle.direction.proofs.Limits.{update_heard}

module _ {link : Setup} {g : Past} {s : Sender} {forth back : List Slot} {r : Receiver} where
  -- ---- a frame leaves the line back unheard: lost, damaged, or a packet of the other direction

  pub back_gone : {x : Slot} → Direction link g s forth r (x ∷ back) → Direction link g s forth r back
  back_gone i = lines_keep i i.forth_ok (Acks.acks-rest i.acks_ok) (updates_rest i.updates_ok)

  -- ---- a replay starts at the oldest unacknowledged packet, by Timer or by a Nak

  pub timer-keeps : Direction link g s forth r back → s.buffer.len ≢ 0 → Direction link g (with_replay s (begun s.replay)) forth r back
  timer-keeps i some =
      replay-keeps i (begun s.replay)
      (λ j e. let z : ◌≡◌ {A = ℕ} 0 j = ap place_of (sym (begun-at s.replay) ∙ e) in omega (arith, some))
      (begun-count s.replay)

  nak-keeps : Direction link g s forth r back → Direction link g (again s) forth r back
  unfolding again
  nak-keeps i =
      by_test (λ (t : Sender). Direction link g t forth r back) (eqb s.buffer.len 0)
      (λ t. i)
      (λ t. timer-keeps i (eqb-false s.buffer.len 0 t))

-- ---- an Ack or a Nak: it says that v packets were received, is accepted, and v are acknowledged

pub record Released (nak : Bool) (link : Setup) (g : Past) (s : Sender) (forth : List Slot) (r : Receiver) (back : List Slot) (number : Seq) : Type 0 where
  pub v : ℕ
  pub low : g.acked ≤ v
  pub high : v ≤ g.got
  pub number_is : number ≡ seq (up_to v)
  pub says : answered s number nak ≡ told (if nak then again (acknowledged s number) else acknowledged s number) 0
  pub keeps : Direction link (acking g v) (if nak then again (acknowledged s number) else acknowledged s number) forth r back

module _ {link : Setup} {g : Past} {s : Sender} {forth back : List Slot} {r : Receiver} {x : Slot}
    (i : Direction link g s forth r (x ∷ back)) where
  module _ {number : Seq} (m : Acks.Heard g.acked g.got number back) where
    high : m.v ≤ g.got
    high = Acks.acks-le m.rest

    -- v − A packets are released, of those in the buffer
    releases_are : releases s number ≡ m.v - g.acked
    releases_are =
        rw (m.number_is, i.sending.acked_is)
        (minus_ahead 4096 (omega arith) (m.v + 4095) (g.acked + 4095) (omega (arith, m.low)) (omega (arith, high, i.numbers)) ∙ omega arith)

    enough : releases s number ≤ s.buffer.len
    enough = omega (arith, releases_are, high, m.low, i.numbers, i.sending.buffer_len)

    number-accepted : ack_answer s.acked s.buffer.len number ≡ 0
    unfolding within
    number-accepted = rw (le-leb (releases s number) s.buffer.len enough)

    bound : s.buffer.len ≤ capacity
    bound = omega (arith, buffer_few i)

    -- those left are those sent after the first v
    held-left : held (acknowledged s number).buffer ≡ drop m.v g.sent
    held-left =
        let all : g.acked + (m.v - g.acked) ≡ m.v = omega (arith, m.low) in
        held-acknowledged s i.s_arrays number enough bound ∙ rw (releases_are, i.sending.buffer_is, drop-drop, all)

    len_left : (acknowledged s number).buffer.len ≡ length g.sent - m.v
    len_left =
        len_acknowledged s i.s_arrays number enough bound ∙ omega (arith, releases_are, i.sending.buffer_len, m.low, high, i.numbers)

    -- a running replay's next packet is one of them
    place-left : (j : ℕ) → (acknowledged s number).replay.at ≡ Some j → j < (acknowledged s number).buffer.len
    unfolding acknowledged
    place-left j e = go s.replay.at refl e
      where
        left : ℕ
        left = (acknowledged s number).buffer.len

        go : (f : Option ℕ) → s.replay.at ≡ f → moved (releases s number) left f ≡ Some j → j < left
        go (Some k) is e =
            moved-within (releases s number) left k j
            (omega (arith, i.sending.replay_in_lem k is, enough, len_acknowledged s i.s_arrays number enough bound)) e
        go None is e = apart j e

    freed : Direction link (acking g m.v) (acknowledged s number) forth r back
    unfolding acknowledged
    freed =
        record {
          s_arrays = arrays_acknowledged s i.s_arrays number;
          r_arrays = i.r_arrays;
          numbers = record { low = high; mid = i.numbers.mid; high = omega (arith, m.low, i.numbers.high) };
          sending =
              record {
                next_is = i.sending.next_is;
                acked_is = m.number_is;
                buffer_is = held-left;
                buffer_len = len_left;
                replay_in_lem = place-left;
                count_fits = omega arith;
                known = i.sending.known;
                formed = i.sending.formed;
                queue = i.sending.queue;
                few = i.sending.few;
                small = i.sending.small;
              };
          crediting = record { limit_is = i.crediting.limit_is; consumed_is = i.crediting.consumed_is; within = i.crediting.within };
          receiving = i.receiving;
          rooming = i.rooming;
          forth_ok = i.forth_ok;
          acks_ok = m.rest;
          updates_ok = updates_rest i.updates_ok;
        }

    released : (nak : Bool) → Released nak link g s forth r back number
    released nak =
        record {
          v = m.v;
          low = m.low;
          high = high;
          number_is = m.number_is;
          says = answered-accepted s number nak number-accepted;
          keeps = by_test (λ (t : Sender). Direction link (acking g m.v) t forth r back) nak (λ e. nak-keeps freed) (λ e. freed);
        }

module _ {link : Setup} {g : Past} {s : Sender} {forth back : List Slot} {r : Receiver} {number : Seq} where
  pub ack-heard : Direction link g s forth r (a_message (Message.Ack number) ∷ back) → Released false link g s forth r back number
  ack-heard i = released i (Acks.acks_ack-heard i.acks_ok) false

  pub nak-heard : Direction link g s forth r (a_message (Message.Nak number) ∷ back) → Released true link g s forth r back number
  nak-heard i = released i (Acks.acks_nak-heard i.acks_ok) true

-- ---- every message is accepted: 24 and 25 are never given

-- another count acknowledged and other limits; what is accepted, sent, received and taken stays as it was
abbrev pub hearing : Past → ℕ → (ℕ → Amount) → Past
hearing g acked limit = record { accepted = g.accepted; sent = g.sent; acked = acked; got = g.got; taken = g.taken; limit = limit }

pub record Accepted (link : Setup) (g : Past) (s : Sender) (forth : List Slot) (r : Receiver) (back : List Slot) (m : Message) : Type 0 where
  pub acked : ℕ
  pub limit : ℕ → Amount
  pub says : (hears s m).answer ≡ 0
  pub keeps : Direction link (hearing g acked limit) (hears s m).sender forth r back

module _ {link : Setup} {g : Past} {s : Sender} {forth back : List Slot} {r : Receiver} where
  accepted_as : {acked : ℕ} {limit : ℕ → Amount} {t : Sender} (m : Message) → hears s m ≡ told t 0
      → Direction link (hearing g acked limit) t forth r back → Accepted link g s forth r back m
  accepted_as {acked} {limit} m e d = record { acked = acked; limit = limit; says = rw e; keeps = rw e d }

  pub message_heard : in_range link ≡ true → (m : Message) → Direction link g s forth r (a_message m ∷ back) → Accepted link g s forth r back m
  unfolding hears
  message_heard ok (Message.Ack number) i = let h = ack-heard i in accepted_as (Message.Ack number) h.says h.keeps
  message_heard ok (Message.Nak number) i = let h = nak-heard i in accepted_as (Message.Nak number) h.says h.keeps
  message_heard ok (Message.Update channel c x) i = let h = update_heard ok i in accepted_as (Message.Update channel c x) h.says h.keeps
