-- Each of the eight steps is refused, and the pair stays as it was, or it is done.
-- Assumes nothing.
use Rattle.std.specs.Prelude.{Some, None, Option}
use Prim.Native.Nat.{ℕ}
use mathlib.Core.Path.{refl, sym, subst}
use mathlib.Core.Logic.{⊎_elim, ◌≢◌}
use mathlib.Core.Bool.{not}
use native.Mathlib.Omega.{arith}
use borrow.Author.Tests.{eqb-false}
use lib.Dec.{eqb, ltb}
use lib.ListN.{length-set}
use lib.Seq.{set-get_or}
use Rattle.basics.proofs.Branches.{by_test}
use Rattle.packets.specs.declared.Packet.{Packet}
use Rattle.frames.specs.declared.Frame.{Frame}
use Rattle.line.specs.Line.{is_full, front_of}
use Rattle.setup.specs.Setup.{blank_setup}
use Rattle.ends.specs.declared.End.{End}
use Rattle.ends.specs.Ends.{Stepped}
use Rattle.ends.specs.Sends.{Sent}
use Rattle.ends.specs.Ends.{end_of, stepped, arrive_of, damage_of, timer_of, refresh_of}
use Rattle.ends.specs.Sends.{send_of}
use Rattle.script.specs.declared.Step.{Step}
use Rattle.script.specs.Step.{formed}
use Rattle.pairs.specs.declared.Pair.{Pair}
use Rattle.pairs.specs.Pairs.{Done}
use Rattle.pairs.specs.Pairs.{done, end_at, line_at, other, by_end, carried, send_at, reached, on_front, reach_at, lose_at}
use Rattle.pairs.specs.Steps.{packet_of, act, pair_in_shape, step_of}
use Rattle.views.specs.Views.{Usual, usual, Submits, not_accepted, joins, Takes, not_handed, hands}
use Rattle.views.proofs.Submits.{submit_view}
use Rattle.views.proofs.Takes.{take_view}
use Rattle.views.proofs.Timers.{timer_view}
use Rattle.rows.specs.Outcome.{Outcome, refuses, does}

usual-no : {n : ℕ} → Usual n → n ≢ 0
usual-no (usual h k) e = omega arith

module _ (p : Pair) where
  refused : (n : ℕ) → n ≢ 0 → Outcome p (done p n 0)
  refused n h = refuses h

  module _ (i : ℕ) where
    -- ---- a step of the end alone

    end-does : (e : End) (detail : ℕ) → Outcome p (by_end p i (stepped e 0 detail))
    unfolding by_end
    end-does e detail = does (length-set p.ends i e) refl

    -- refused, it stores the end as it was
    end-refuses : (n : ℕ) → n ≢ 0 → Outcome p (by_end p i (stepped (end_at p i) n 0))
    unfolding by_end
    end-refuses n h = rw (set-get_or p.ends i (end_of blank_setup)) (refused n h)

    submit_outcome : {q : Packet} {s : Stepped} → Submits (end_at p i) q s → Outcome p (by_end p i s)
    submit_outcome (not_accepted {n} u) = end-refuses n (usual-no u)
    submit_outcome (joins rules enough room) = end-does _ 0

    take_outcome : {channel category : ℕ} {s : Stepped} → Takes (end_at p i) channel category s → Outcome p (by_end p i s)
    take_outcome (not_handed {n} u) = end-refuses n (usual-no u)
    take_outcome (hands c place is used here within of-it first in_order) = end-does _ _

    timer_outcome : Outcome p (by_end p i (timer_of (end_at p i)))
    timer_outcome =
        ⊎_elim
        (λ e. subst (λ s. Outcome p (by_end p i s)) (sym e) (end-refuses 23 (λ z. omega arith)))
        (λ e. subst (λ s. Outcome p (by_end p i s)) (sym e.1) (end-does _ 0))
        (timer_view (end_at p i))

    refresh_outcome : Outcome p (by_end p i (refresh_of (end_at p i)))
    unfolding refresh_of
    refresh_outcome = end-does _ 0

    -- ---- Send

    carried_outcome : (s : Sent) (x : Option Frame) → Outcome p (carried p i s x)
    carried_outcome s None = refused 18 (λ z. omega arith)
    carried_outcome s (Some f) =
        by_test (Outcome p) (is_full (line_at p (other i))) (λ t. refused 17 (λ z. omega arith))
        (λ t. does (length-set p.ends i _) (length-set p.lines (other i) _))

    send_outcome : Outcome p (send_at p i)
    unfolding send_at
    send_outcome = carried_outcome (send_of (end_at p i)) (send_of (end_at p i)).frame

    -- ---- the oldest frame on the line towards the end: Arrive, Damage, Lose

    front_outcome : (x : Option Frame) (found : Frame → Done) → ((f : Frame) → Outcome p (found f)) → Outcome p (on_front p x found)
    front_outcome None found g = refused 19 (λ z. omega arith)
    front_outcome (Some f) found g = g f

    reached_outcome : (s : Stepped) → Outcome p (reached p i s)
    unfolding reached
    reached_outcome s =
        by_test (Outcome p) (eqb s.answer 0) (λ t. does (length-set p.ends i _) (length-set p.lines i _))
        (λ t. refused s.answer (eqb-false s.answer 0 t))

    reach_outcome : (step : End → Frame → Stepped) → Outcome p (reach_at step p i)
    unfolding reach_at
    reach_outcome step = front_outcome (front_of (line_at p i)) _ (λ f. reached_outcome (step (end_at p i) f))

    lose_outcome : Outcome p (lose_at p i)
    unfolding lose_at
    lose_outcome = front_outcome (front_of (line_at p i)) _ (λ f. does refl (length-set p.lines i _))

  -- ---- the eight steps, and 10, 11 and 6 before them

  module _ (t : Step) where
    abbrev i : ℕ
    i = t.end

    act_outcome : Outcome p (act p t)
    unfolding act
    act_outcome =
        by_test (Outcome p) (eqb t.step 1) (λ e. submit_outcome i (submit_view (end_at p i) (packet_of t)))
        (λ e. by_test (Outcome p) (eqb t.step 2) (λ e. send_outcome i)
        (λ e. by_test (Outcome p) (eqb t.step 3) (λ e. reach_outcome i arrive_of)
        (λ e. by_test (Outcome p) (eqb t.step 4) (λ e. reach_outcome i damage_of)
        (λ e. by_test (Outcome p) (eqb t.step 5) (λ e. lose_outcome i)
        (λ e. by_test (Outcome p) (eqb t.step 6) (λ e. take_outcome i (take_view (end_at p i) t.class t.kind))
        (λ e. by_test (Outcome p) (eqb t.step 7) (λ e. timer_outcome i) (λ e. refresh_outcome i)))))))

    pub step_outcome : Outcome p (step_of p t)
    unfolding step_of
    step_outcome =
        by_test (Outcome p) (not (pair_in_shape p)) (λ e. refused 10 (λ z. omega arith))
        (λ e. by_test (Outcome p) (ltb 1 i) (λ e. refused 11 (λ z. omega arith))
        (λ e. by_test (Outcome p) (not (formed t)) (λ e. refused 6 (λ z. omega arith)) (λ e. act_outcome)))
