-- A step on the one element that it changes is the step on the whole end. Assumes nothing.
use Rattle.std.specs.Prelude.{if◌then◌else◌}
use Prim.Native.Nat.{ℕ, ◌<◌, ◌≤◌}
use mathlib.Core.Bool.{Bool, true, false}
use mathlib.Core.List.{List}
use mathlib.Core.Path.{◌≡◌, refl, sym, ◌∙◌, ap, subst}
use native.Mathlib.Omega.{arith}
use borrow.Author.Tests.{leb-true, leb-false, eqb-true, lt-ltb, le-ltb}
use lib.Dec.{ltb, leb, eqb}
use lib.ListN.{length, get_or-eq_default}
use lib.Seq.{set-get_or, set_out}
use Rattle.basics.proofs.Branches.{by_test}
use Rattle.packets.specs.declared.Packet.{Packet}
use Rattle.store.specs.declared.Packets.{Packets}
use Rattle.store.specs.Store.{empty, pushed}
use Rattle.setup.specs.Setup.{channels, channel_of}
use Rattle.setup.specs.declared.Setup.{Setup}
use Rattle.sender.specs.Sender.{sender, queue_at, with_queue, submitted}
use Rattle.ends.specs.declared.End.{End}
use Rattle.ends.specs.Ends.{Stepped, end, stepped, submit_answer, submit_of}
use Rattle.host.specs.Parts.{Queued, join_answer, queue_for, joined}

-- the end with this queue at place k
abbrev pub with_queue_at : End → ℕ → Packets → End
with_queue_at e k q = end e.setup (with_queue e.sender k q) e.receiver

pub queue_in : (link : Setup) (p : Packet) → queue_for link p < channels
unfolding queue_for
queue_in link p =
    by_test (λ (n : ℕ). n < channels) (ltb (channel_of link p.class) channels) (λ t. leb-true _ _ t) (λ t. omega arith)

module _ (e : End) (p : Packet) where
  abbrev link : Setup
  link = e.setup

  abbrev ch : ℕ
  ch = channel_of link p.class

  abbrev queued : ℕ → Packets → Queued
  queued answer q = record { answer = answer; queue = q }

  abbrev Same : ℕ → Queued → Stepped → Type 0
  Same k r s = (r.answer ≡ s.answer) × (with_queue_at e k r.queue ≡ s.end)

  -- the step on the whole end, by its answer
  abbrev whole : ℕ → Bool → Stepped
  whole a t = if t then stepped (end link (submitted e.sender ch p) e.receiver) 0 0 else stepped e a 0

  -- a queue that is put back changes nothing
  kept : (k : ℕ) → with_queue_at e k (queue_at e.sender k) ≡ e
  kept k =
      ap (λ (qs : List Packets). end link (sender qs e.sender.credits e.sender.buffer e.sender.next e.sender.acked e.sender.replay) e.receiver)
      (set-get_or e.sender.queues k empty)

  -- nor does one past the last channel
  gone : (q : Packets) → length e.sender.queues ≤ ch → with_queue_at e ch q ≡ e
  gone q h =
      ap (λ (qs : List Packets). end link (sender qs e.sender.credits e.sender.buffer e.sender.next e.sender.acked e.sender.replay) e.receiver)
      (set_out e.sender.queues ch q h)

  on_channel_lem : (a : ℕ) (t : Bool) → Same ch (if t then queued 0 (pushed (queue_at e.sender ch) p) else queued a (queue_at e.sender ch)) (whole a t)
  unfolding submitted
  on_channel_lem a true = (refl, refl)
  on_channel_lem a false = (refl, kept ch)

  on_none : (a : ℕ) (t : Bool) → eqb a 0 ≡ t → length e.sender.queues ≤ ch → Same 0 (queued a (queue_at e.sender 0)) (whole a t)
  unfolding submitted
  on_none a true t h = (eqb-true a 0 t, kept 0 ∙ sym (gone (pushed (queue_at e.sender ch) p) h))
  on_none a false t h = (refl, kept 0)

  -- the answer is the same
  answers : submit_answer e p ≡ join_answer link (queue_at e.sender ch) p
  unfolding submit_answer join_answer
  answers = refl

  steps : submit_of e p ≡ whole (join_answer link (queue_at e.sender ch) p) (eqb (join_answer link (queue_at e.sender ch) p) 0)
  unfolding submit_of
  steps = rw answers refl

  module _ (out : leb channels ch ≡ true) (four : length e.sender.queues ≡ channels) where
    past : length e.sender.queues ≤ ch
    past = subst (λ (n : ℕ). n ≤ ch) (sym four) (leb-true channels ch out)

    first_place : queue_for link p ≡ 0
    unfolding queue_for
    first_place = simp (le-ltb ch channels (leb-true channels ch out))

    as_it_was : (q : Packets) → joined link q p ≡ queued (join_answer link empty p) q
    unfolding joined
    as_it_was q = simp out

    nothing_waits : queue_at e.sender ch ≡ empty
    nothing_waits = get_or-eq_default e.sender.queues empty {n = ch} past

    abbrev a₀ : ℕ
    a₀ = join_answer link empty p

    alike : submit_of e p ≡ whole a₀ (eqb a₀ 0)
    alike = steps ∙ ap (λ (q : Packets). whole (join_answer link q p) (eqb (join_answer link q p) 0)) nothing_waits

    off_channel : Same (queue_for link p) (joined link (queue_at e.sender (queue_for link p)) p) (submit_of e p)
    off_channel =
        subst (λ (k : ℕ). Same k (joined link (queue_at e.sender k) p) (submit_of e p)) (sym first_place)
        (subst (λ (r : Queued). Same 0 r (submit_of e p)) (sym (as_it_was (queue_at e.sender 0)))
        (subst (λ (s : Stepped). Same 0 (queued a₀ (queue_at e.sender 0)) s) (sym alike) (on_none a₀ (eqb a₀ 0) refl past)))

  module _ (within : leb channels ch ≡ false) where
    its_place : queue_for link p ≡ ch
    unfolding queue_for
    its_place = simp (lt-ltb ch channels (leb-false channels ch within))

    abbrev q₀ : Packets
    q₀ = queue_at e.sender ch

    by_answer : joined link q₀ p ≡ (if eqb (join_answer link q₀ p) 0 then queued 0 (pushed q₀ p) else queued (join_answer link q₀ p) q₀)
    unfolding joined
    by_answer = simp within

    at_channel : Same (queue_for link p) (joined link (queue_at e.sender (queue_for link p)) p) (submit_of e p)
    at_channel =
        subst (λ (k : ℕ). Same k (joined link (queue_at e.sender k) p) (submit_of e p)) (sym its_place)
        (subst (λ (r : Queued). Same ch r (submit_of e p)) (sym by_answer)
        (subst (λ (s : Stepped). Same ch (if eqb (join_answer link q₀ p) 0 then queued 0 (pushed q₀ p) else queued (join_answer link q₀ p) q₀) s) (sym steps)
        (on_channel_lem (join_answer link q₀ p) (eqb (join_answer link q₀ p) 0))))

  at_any : (t : Bool) → leb channels ch ≡ t → length e.sender.queues ≡ channels
      → Same (queue_for link p) (joined link (queue_at e.sender (queue_for link p)) p) (submit_of e p)
  at_any true out four = off_channel out four
  at_any false within four = at_channel within

pub submits : (e : End) (p : Packet) → length e.sender.queues ≡ channels
    → ((joined e.setup (queue_at e.sender (queue_for e.setup p)) p).answer ≡ (submit_of e p).answer)
    × (with_queue_at e (queue_for e.setup p) (joined e.setup (queue_at e.sender (queue_for e.setup p)) p).queue ≡ (submit_of e p).end)
submits e p four = at_any e p (leb channels (channel_of e.setup p.class)) refl four
