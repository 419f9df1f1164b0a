-- Over every list of steps both directions are kept, and their pasts hold what the history accepted and took.
-- Assumes nothing.
use Rattle.std.specs.Prelude.{if◌then◌else◌}
use Prim.Native.Nat.{ℕ, ◌<◌}
use mathlib.Core.Path.{◌≡◌, refl}
use mathlib.Core.Logic.{◌≢◌, by_cases}
use mathlib.Core.Bool.{Bool, true, false, ◌&&◌}
use mathlib.Core.List.{List, [], ◌∷◌, ◌++◌, map}
use native.Mathlib.Decide.{ℕ_discrete}
use native.Mathlib.Omega.{arith}
use borrow.Author.Tests.{ne_eqb, lt-ltb}
use lib.Dec.{eqb}
use Rattle.script.specs.declared.Step.{Step}
use Rattle.script.specs.Step.{is_submit, is_take}
use Rattle.pairs.specs.declared.Pair.{Pair}
use Rattle.pairs.specs.Pairs.{done}
use Rattle.pairs.specs.Steps.{step_of}
use Rattle.views.specs.Views.{usual}
use Rattle.setup.specs.declared.Setup.{Setup}
use Rattle.direction.specs.Direction.{Past}
use Rattle.rows.specs.Rows.{after}
use Rattle.law.specs.History.{Event, about, event, history, accepted, taken, succeeded}
use Rattle.law.proofs.Pasts.{Grows, grows_none, grows_row}
use Rattle.law.proofs.Pairs.{Seen, Kept, seen_other, pair_in_shape_lem}
use Rattle.law.proofs.Steps.{Fine, refused, step-does, refused-submit, refused-take, none-accepted, none-taken, and_no}

-- ---- a history in two parts

module _ (end : ℕ) (e : Event) (es : List Event) where
  map_more : (b : Bool) (l : List Event) → map (λ x. x.packet) (if b then e ∷ l else l) ≡ map (λ x. x.packet) (if b then e ∷ [] else []) ++ map (λ x. x.packet) l
  map_more true l = refl
  map_more false l = refl

  pub accepted-more : accepted end (e ∷ es) ≡ accepted end (e ∷ []) ++ accepted end es
  unfolding accepted
  accepted-more = map_more (succeeded is_submit end e) _

  pub taken_more : taken end (e ∷ es) ≡ taken end (e ∷ []) ++ taken end es
  unfolding taken
  taken_more = map_more (succeeded is_take end e) _

-- a step at one end adds nothing at the other
module _ (i : ℕ) (e : Event) (n : e.step.end ≢ i) where
  elsewhere : (isIt : ℕ → Bool) → succeeded isIt i e ≡ false
  elsewhere isIt = and_no (isIt e.step.step) (eqb e.step.end i && eqb e.answer 0) (rw (ne_eqb e.step.end i n))

  accepted_elsewhere : accepted i (e ∷ []) ≡ []
  accepted_elsewhere = none-accepted i e (elsewhere is_submit)

  taken_elsewhere : taken i (e ∷ []) ≡ []
  taken_elsewhere = none-taken i e (elsewhere is_take)

-- ---- what some steps make of the pair: `up` is the past of the direction from end 0 to end 1, `down` that of the other

pub record Grown (near far : Setup) (up down : Past) (es : List Event) (p : Pair) : Type 0 where
  pub up' : Past
  pub down' : Past
  pub up_grows : Grows up (accepted 0 es) (taken 1 es) up'
  pub down_grows : Grows down (accepted 1 es) (taken 0 es) down'
  pub seen : Seen near far up' down' p 0

-- a step at end 0, and one at end 1
at_0 : {near far : Setup} {up down : Past} {es : List Event} {p : Pair} (j : ℕ) → j ≡ 0 → Kept near far up down (accepted j es) (taken j es) p j → accepted 1 es ≡ [] → taken 1 es ≡ []
    → Grown near far up down es p
at_0 {near} {far} {up} {down} {es} {p} j e kept a b =
    let k : Kept near far up down (accepted 0 es) (taken 0 es) p 0 = rw e at kept in
    record { up' = k.out'; down' = k.back'; up_grows = rw b k.out_grows; down_grows = rw a k.back_grows; seen = k.seen }

at_1 : {near far : Setup} {up down : Past} {es : List Event} {p : Pair} (j : ℕ) → j ≡ 1 → Kept far near down up (accepted j es) (taken j es) p j → accepted 0 es ≡ [] → taken 0 es ≡ []
    → Grown near far up down es p
at_1 {near} {far} {up} {down} {es} {p} j e kept a b =
    let k : Kept far near down up (accepted 1 es) (taken 1 es) p 1 = rw e at kept in
    record { up' = k.back'; down' = k.out'; up_grows = rw a k.back_grows; down_grows = rw b k.out_grows; seen = seen_other 1 (omega arith) k.seen }

module _ {near far : Setup} {up down : Past} {p : Pair} (v : Seen near far up down p 0) (t : Step) where
  grown_0 : t.end ≡ 0 → Grown near far up down (event p t ∷ []) (step_of p t).pair
  grown_0 e =
      let w : Seen near far up down p t.end = rw e v in
      at_0 t.end e (step-does t (omega arith) w (pair_in_shape_lem v)).kept
      (accepted_elsewhere 1 (event p t) (λ z. omega arith)) (taken_elsewhere 1 (event p t) (λ z. omega arith))

  grown_1 : t.end ≡ 1 → Grown near far up down (event p t ∷ []) (step_of p t).pair
  grown_1 e =
      let w : Seen far near down up p t.end = rw e (seen_other 0 (omega arith) v) in
      at_1 t.end e (step-does t (omega arith) w (pair_in_shape_lem v)).kept
      (accepted_elsewhere 0 (event p t) (λ z. omega arith)) (taken_elsewhere 0 (event p t) (λ z. omega arith))

  -- 11: there is no such end
  nowhere : 1 < t.end → step_of p t ≡ done p 11 0
  unfolding step_of
  nowhere h = rw (pair_in_shape_lem v, lt-ltb 1 t.end h)

  grown-none : 1 < t.end → Grown near far up down (event p t ∷ []) (step_of p t).pair
  grown-none h =
      let d = step_of p t in
      let no : eqb d.answer 0 ≡ false = rw (nowhere h) in
      record {
        up' = up;
        down' = down;
        up_grows = rw (refused-submit 0 t d (about p t) no, refused-take 1 t d (about p t) no) (grows_none refl refl);
        down_grows = rw (refused-submit 1 t d (about p t) no, refused-take 0 t d (about p t) no) (grows_none refl refl);
        seen = rw (nowhere h) v;
      }

  pub grown_one : Grown near far up down (event p t ∷ []) (step_of p t).pair
  grown_one =
      by_cases (ℕ_discrete t.end 0) grown_0
      (λ n. by_cases (ℕ_discrete t.end 1) grown_1 (λ m. grown-none (omega arith)))

  -- the answer is neither 10 nor one of 24 to 27
  pub fine_one : Fine (step_of p t).answer
  fine_one =
      by_cases (ℕ_discrete t.end 0)
      (λ e. let w : Seen near far up down p t.end = rw e v in (step-does t (omega arith) w (pair_in_shape_lem v)).fine)
      (λ n.
      by_cases (ℕ_discrete t.end 1)
      (λ e. let w : Seen far near down up p t.end = rw e (seen_other 0 (omega arith) v) in (step-does t (omega arith) w (pair_in_shape_lem v)).fine)
      (λ m. rw (nowhere (omega arith)) (refused (usual {n = 11} (omega arith) (omega arith)))))

-- ---- every list of steps

pub grown : {near far : Setup} {up down : Past} {p : Pair} (ts : List Step) → Seen near far up down p 0 → Grown near far up down (history p ts) (after p ts)
unfolding history after accepted taken
grown {up} {down} {p} [] v = record { up' = up; down' = down; up_grows = grows_none refl refl; down_grows = grows_none refl refl; seen = v }
grown {near = near} {far = far} {up = up} {down = down} {p = p} (t ∷ ts) v =
    let a = grown_one v t in
    let b = grown {near = near} {far = far} {up = a.up'} {down = a.down'} {p = (step_of p t).pair} ts a.seen in
    let es = history (step_of p t).pair ts in
    record {
      up' = b.up';
      down' = b.down';
      up_grows = rw (accepted-more 0 (event p t) es, taken_more 1 (event p t) es) (grows_row a.up_grows b.up_grows);
      down_grows = rw (accepted-more 1 (event p t) es, taken_more 0 (event p t) es) (grows_row a.down_grows b.down_grows);
      seen = b.seen;
    }
