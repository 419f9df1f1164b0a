-- Each step of the pair keeps both directions, answers with no unusual number, and adds to the history what it accepted and handed out.
-- Assumes nothing.
use Rattle.std.specs.Prelude.{Some, None, Option}
use Prim.Native.Nat.{ℕ, ◌<◌}
use mathlib.Core.Path.{◌≡◌, refl, sym, subst, ◌∙◌}
use mathlib.Core.Logic.{⊎_elim, ◌≢◌}
use mathlib.Core.Bool.{Bool, true, false, not, ◌&&◌}
use mathlib.Core.List.{[], ◌∷◌}
use native.Mathlib.Omega.{arith}
use borrow.Author.Tests.{eqb-true, eq-eqb, ne_eqb, le-ltb}
use lib.Dec.{eqb}
use lib.ListN.{set}
use Rattle.basics.proofs.Branches.{by_test}
use Rattle.packets.specs.declared.Packet.{Packet}
use Rattle.packets.specs.Packets.{numbered}
use Rattle.store.specs.Store.{held}
use Rattle.frames.specs.declared.Frame.{Frame}
use Rattle.line.specs.Line.{is_full, put, front_of, rest_of}
use Rattle.receiver.specs.Receiver.{inbox_at}
use Rattle.ends.specs.Ends.{Stepped}
use Rattle.ends.specs.Sends.{Sent}
use Rattle.ends.specs.Ends.{timer_of, refresh_of}
use Rattle.script.specs.declared.Step.{Step}
use Rattle.script.specs.Step.{is_submit, is_take, formed}
use Rattle.pairs.specs.declared.Pair.{Pair}
use Rattle.pairs.specs.Pairs.{Done}
use Rattle.pairs.specs.Pairs.{pair, done, end_at, line_at, other, by_end, carried, send_at, reached, on_front, reach_at, lose_at}
use Rattle.pairs.specs.Steps.{packet_of, act, pair_in_shape, step_of}
use Rattle.views.specs.Views.{Usual, usual, Submits, not_accepted, joins, Sends, Takes, not_handed, hands}
use Rattle.views.proofs.Submits.{submit_view}
use Rattle.views.proofs.Sends.{send_view}
use Rattle.views.proofs.Takes.{take_view}
use Rattle.views.proofs.Timers.{timer_view}
use Rattle.setup.specs.declared.Setup.{Setup}
use Rattle.direction.specs.Direction.{Past}
use Rattle.law.specs.History.{Event, oldest_of, about, accepted, taken, succeeded}
use Rattle.law.proofs.Both.{unchanged}
use Rattle.law.proofs.Sending.{send-next}
use Rattle.law.proofs.Reaching.{Reached, lose_next, damage-next, arrive-next}
use Rattle.law.proofs.Acting.{submit-next, take_next, timer-next, refresh-next}
use Rattle.law.proofs.Pairs.{Seen, Kept, kept_end, kept_to, kept_from, kept_line, kept_pair}

-- an answer of the pair: done, out of form, or a usual refusal; so neither 10 nor 24 to 27
pub data Fine : ℕ → Type 0 where
  all_done : Fine 0
  out_of_form : Fine 6
  refused : {n : ℕ} → Usual n → Fine n

-- ---- what an event adds to the history

abbrev pub entry : Step → Done → Packet → Event
entry t d q = record { step = t; answer = d.answer; detail = d.detail; packet = q }

pub none-accepted : (i : ℕ) (e : Event) → succeeded is_submit i e ≡ false → accepted i (e ∷ []) ≡ []
unfolding accepted
none-accepted i e h = rw h

pub none-taken : (i : ℕ) (e : Event) → succeeded is_take i e ≡ false → taken i (e ∷ []) ≡ []
unfolding taken
none-taken i e h = rw h

-- a step that is not Submit, and one that is refused
pub and_no : (a b : Bool) → b ≡ false → (a && b) ≡ false
and_no true b e = e
and_no false b e = refl

not-submit : (i : ℕ) (t : Step) (d : Done) (q : Packet) → is_submit t.step ≡ false → accepted i (entry t d q ∷ []) ≡ []
not-submit i t d q e = none-accepted i (entry t d q) (rw e)

not-take : (i : ℕ) (t : Step) (d : Done) (q : Packet) → is_take t.step ≡ false → taken i (entry t d q ∷ []) ≡ []
not-take i t d q e = none-taken i (entry t d q) (rw e)

pub refused-submit : (i : ℕ) (t : Step) (d : Done) (q : Packet) → eqb d.answer 0 ≡ false → accepted i (entry t d q ∷ []) ≡ []
refused-submit i t d q e =
    none-accepted i (entry t d q) (and_no (is_submit t.step) (eqb t.end i && eqb d.answer 0) (and_no (eqb t.end i) (eqb d.answer 0) e))

pub refused-take : (i : ℕ) (t : Step) (d : Done) (q : Packet) → eqb d.answer 0 ≡ false → taken i (entry t d q ∷ []) ≡ []
refused-take i t d q e =
    none-taken i (entry t d q) (and_no (is_take t.step) (eqb t.end i && eqb d.answer 0) (and_no (eqb t.end i) (eqb d.answer 0) e))

-- an accepted Submit, an accepted Take
one_accepted : (i : ℕ) (t : Step) (q : Packet) (detail : ℕ) → is_submit t.step ≡ true → t.end ≡ i
    → accepted i (record { step = t; answer = 0; detail = detail; packet = q } ∷ []) ≡ q ∷ []
unfolding accepted
one_accepted i t q detail s e = rw (s, eq-eqb t.end i e)

one_taken : (i : ℕ) (t : Step) (q : Packet) (detail : ℕ) → is_take t.step ≡ true → t.end ≡ i
    → taken i (record { step = t; answer = 0; detail = detail; packet = q } ∷ []) ≡ q ∷ []
unfolding taken
one_taken i t q detail s e = rw (s, eq-eqb t.end i e)

usual-no : {n : ℕ} → Usual n → eqb n 0 ≡ false
usual-no {n} (usual h k) = ne_eqb n 0 (omega arith)

-- ---- the step

module _ {near far : Setup} {out back : Past} {p : Pair} (t : Step) (h : t.end < 2) (v : Seen near far out back p t.end) where
  abbrev i : ℕ
  i = t.end

  -- what the step `d` about packet q makes of it
  pub record Does (q : Packet) (d : Done) : Type 0 where
    pub fine : Fine d.answer
    pub kept : Kept near far out back (accepted i (entry t d q ∷ [])) (taken i (entry t d q ∷ [])) d.pair i

  -- neither accepted nor taken: a step that is neither Submit nor Take, or one that is refused
  silent : (q : Packet) (d : Done) → Fine d.answer → is_submit t.step ≡ false → is_take t.step ≡ false → Kept near far out back [] [] d.pair i → Does q d
  silent q d fine s k kept = record { fine = fine; kept = rw (not-submit i t d q s, not-take i t d q k) kept }

  fails_by : (q : Packet) (d : Done) → Fine d.answer → eqb d.answer 0 ≡ false → Kept near far out back [] [] d.pair i → Does q d
  fails_by q d fine e kept = record { fine = fine; kept = rw (refused-submit i t d q e, refused-take i t d q e) kept }

  fails : (q : Packet) (d : Done) → Usual d.answer → Kept near far out back [] [] d.pair i → Does q d
  fails q d u kept = fails_by q d (refused u) (usual-no u) kept

  same : Kept near far out back [] [] p i
  same = kept_pair h v (unchanged v.both)

  -- a refused step of the end alone stores the end as it was
  stored_same : Kept near far out back [] [] (pair (set p.ends i (end_at p i)) p.lines) i
  stored_same = kept_end h v (end_at p i) (unchanged v.both)

  -- ---- Send

  sent-does : (q : Packet) → is_submit t.step ≡ false → is_take t.step ≡ false → (x : Sent) → Sends (end_at p i) x → (f : Option Frame) → x.frame ≡ f → Does q (carried p i x f)
  sent-does q s k x w None e = fails q (done p 18 0) (usual (omega arith) (omega arith)) same
  sent-does q s k x w (Some f) e =
      by_test (Does q) (is_full (line_at p (other i)))
      (λ u. fails q (done p 17 0) (usual (omega arith) (omega arith)) same)
      (λ u. silent q _ all_done s k (kept_from h v x.end (put (line_at p (other i)) f) (send-next v.both u w f e)))

  -- ---- Arrive, Damage, Lose

  reached-does : (q : Packet) → is_submit t.step ≡ false → is_take t.step ≡ false → (f : Frame) (front : front_of (line_at p i) ≡ Some f) (x : Stepped)
      → Reached v.both f front x → Does q (reached p i x)
  unfolding reached
  reached-does q s k f front x r =
      rw (eq-eqb x.answer 0 r.says) (silent q _ all_done s k (kept_to h v x.end (rest_of (line_at p i)) r.next))

  front-does : (q : Packet) (found : Frame → Done) → ((f : Frame) → front_of (line_at p i) ≡ Some f → Does q (found f))
      → (x : Option Frame) → front_of (line_at p i) ≡ x → Does q (on_front p x found)
  front-does q found g None e = fails q (done p 19 0) (usual (omega arith) (omega arith)) same
  front-does q found g (Some f) e = g f e

  -- ---- Submit

  submit-does : is_submit t.step ≡ true → is_take t.step ≡ false → {x : Stepped} → Submits (end_at p i) (packet_of t) x → Does (packet_of t) (by_end p i x)
  unfolding by_end
  submit-does s k (not_accepted {n} u) = fails (packet_of t) (done _ n 0) u stored_same
  submit-does s k (joins rules enough room) =
      record {
        fine = all_done;
        kept = rw (one_accepted i t (packet_of t) 0 s refl, not-take i t _ (packet_of t) k) (kept_end h v _ (submit-next v.both (packet_of t) rules enough room));
      }

  -- ---- Take

  take-does : is_submit t.step ≡ false → is_take t.step ≡ true → {x : Stepped} → Takes (end_at p i) t.class t.kind x
      → Does (oldest_of (numbered t.kind) (held (inbox_at (end_at p i).receiver t.class))) (by_end p i x)
  unfolding by_end
  take-does s k (not_handed {n} u) = fails _ (done _ n 0) u stored_same
  take-does s k (hands c place is used here within of-it first in_order) =
      record {
        fine = all_done;
        kept =
            rw (not-submit i t _ _ s, one_taken i t _ _ k refl)
            (kept_end h v _ (take_next v.both t.class t.kind place c is used here within of-it first in_order));
      }

  -- ---- Timer

  timer-does : (q : Packet) → is_submit t.step ≡ false → is_take t.step ≡ false → Does q (by_end p i (timer_of (end_at p i)))
  unfolding by_end
  timer-does q s k =
      ⊎_elim
      (λ e. subst (λ x. Does q (by_end p i x)) (sym e) (fails q (done _ 23 0) (usual (omega arith) (omega arith)) stored_same))
      (λ e. subst (λ x. Does q (by_end p i x)) (sym e.1) (silent q _ all_done s k (kept_end h v _ (timer-next v.both e.0))))
      (timer_view (end_at p i))

  refresh-does : (q : Packet) → is_submit t.step ≡ false → is_take t.step ≡ false → Does q (by_end p i (refresh_of (end_at p i)))
  unfolding by_end refresh_of
  refresh-does q s k = silent q _ all_done s k (kept_end h v _ (refresh-next v.both))

  -- ---- the eight steps

  -- a number that is one is no other
  differs : (a b : ℕ) → a ≢ b → eqb t.step a ≡ true → eqb t.step b ≡ false
  differs a b n e = ne_eqb t.step b (λ z. n (sym (eqb-true t.step a e) ∙ z))

  act-does : Does (about p t) (act p t)
  unfolding act send_at reach_at lose_at
  act-does =
      by_test (λ d. Does (about p t) d) (eqb t.step 1)
      (λ s. rw s (submit-does s (differs 1 6 (λ z. omega arith) s) (submit_view (end_at p i) (packet_of t))))
      (λ s.
      by_test (λ d. Does (about p t) d) (eqb t.step 2)
      (λ e. sent-does (about p t) s (differs 2 6 (λ z. omega arith) e) _ (send_view (end_at p i)) _ refl)
      (λ n2.
      by_test (λ d. Does (about p t) d) (eqb t.step 3)
      (λ e. let k = differs 3 6 (λ z. omega arith) e in front-does (about p t) _ (λ f w. reached-does (about p t) s k f w _ (arrive-next v.both f w)) _ refl)
      (λ n3.
      by_test (λ d. Does (about p t) d) (eqb t.step 4)
      (λ e. let k = differs 4 6 (λ z. omega arith) e in front-does (about p t) _ (λ f w. reached-does (about p t) s k f w _ (damage-next v.both f w)) _ refl)
      (λ n4.
      by_test (λ d. Does (about p t) d) (eqb t.step 5)
      (λ e. let k = differs 5 6 (λ z. omega arith) e in front-does (about p t) _ (λ f w. silent (about p t) _ all_done s k (kept_line h v _ (lose_next v.both f w))) _ refl)
      (λ n5.
      by_test (λ d. Does (about p t) d) (eqb t.step 6)
      (λ k. rw (s, k) (take-does s k (take_view (end_at p i) t.class t.kind)))
      (λ k.
      by_test (λ d. Does (about p t) d) (eqb t.step 7)
      (λ e. timer-does (about p t) s k)
      (λ e. refresh-does (about p t) s k)))))))

  -- ---- the step as it is asked for: 10 is not given

  pub step-does : pair_in_shape p ≡ true → Does (about p t) (step_of p t)
  unfolding step_of
  step-does shape =
      rw (shape, le-ltb 1 t.end (omega arith))
      (by_test (λ d. Does (about p t) d) (not (formed t)) (λ e. fails_by (about p t) (done p 6 0) out_of_form refl same) (λ e. act-does))
