-- A history of two lists of steps; steps without a Submit accept nothing, so quiet rounds accept nothing.
-- Assumes nothing.
use Prim.Native.Nat.{ℕ, zero, suc}
use mathlib.Core.Path.{◌≡◌, refl, ap}
use mathlib.Core.Bool.{Bool, true, not}
use mathlib.Core.List.{List, [], ◌∷◌, ◌++◌, map-append, append-nil}
use borrow.Author.Tests.{not-true}
use lib.Dec.{eqb}
use Rattle.basics.specs.Lists.{all}
use Rattle.basics.proofs.All.{all_append}
use Rattle.basics.proofs.Branches.{by_test, and_left, and_right}
use Rattle.basics.proofs.Filters.{filter-append}
use Rattle.script.specs.declared.Step.{Step}
use Rattle.script.specs.Step.{is_submit}
use Rattle.pairs.specs.declared.Pair.{Pair}
use Rattle.pairs.specs.Steps.{step_of}
use Rattle.rounds.specs.Rounds.{take_of}
use Rattle.rows.specs.Rows.{after, opening_steps, exchange_steps, repeated, take_steps, takes_on_steps, takes_below_steps, round_steps, rounds_steps}
use Rattle.law.specs.History.{Event, event, history, accepted, succeeded}
use Rattle.law.proofs.Steps.{none-accepted}
use Rattle.law.proofs.Histories.{accepted-more}

-- ---- two lists, one after the other

pub history-append : (p : Pair) (a b : List Step) → history p (a ++ b) ≡ history p a ++ history (after p a) b
unfolding history after
history-append p [] b = refl
history-append p (t ∷ a) b = ap (λ es. event p t ∷ es) (history-append (step_of p t).pair a b)

pub accepted-append : (i : ℕ) (a b : List Event) → accepted i (a ++ b) ≡ accepted i a ++ accepted i b
unfolding accepted
accepted-append i a b = rw (filter-append (succeeded is_submit i) a b, map-append)

-- ---- steps none of which is Submit

abbrev pub no_submit : List Step → Bool
no_submit ts = all (λ t. not (is_submit t.step)) ts

-- they accept nothing, from any pair
pub none-accepted_by : (i : ℕ) (ts : List Step) → no_submit ts ≡ true → (p : Pair) → accepted i (history p ts) ≡ []
unfolding history accepted
none-accepted_by i [] h p = refl
none-accepted_by i (t ∷ ts) h p =
    let first = not-true (is_submit t.step) (and_left (not (is_submit t.step)) (no_submit ts) h) in
    let rest = and_right (not (is_submit t.step)) (no_submit ts) h in
    rw (accepted-more i (event p t) (history (step_of p t).pair ts), none-accepted i (event p t) (rw first), none-accepted_by i ts rest (step_of p t).pair)

-- ---- a quiet round, part by part

opening-submits-none : no_submit opening_steps ≡ true
unfolding opening_steps
opening-submits-none = refl

exchange_submits_none : no_submit exchange_steps ≡ true
unfolding exchange_steps
exchange_submits_none = refl

repeated-submit-none : (n : ℕ) (ts : List Step) → no_submit ts ≡ true → no_submit (repeated n ts) ≡ true
unfolding repeated
repeated-submit-none zero ts h = refl
repeated-submit-none (suc n) ts h = simp (all_append, repeated-submit-none n ts h, h)

takes_submit-none : (most : ℕ) (p : Pair) (end channel category : ℕ) → no_submit (take_steps most p end channel category) ≡ true
unfolding take_steps
takes_submit-none zero p end channel category = refl
takes_submit-none (suc most) p end channel category =
    by_test (λ ts. no_submit ts ≡ true) (eqb (take_of p end channel category).answer 0)
    (λ e. takes_submit-none most (take_of p end channel category).pair end channel category) (λ e. refl)

takes_on-submit-none : (p : Pair) (end channel : ℕ) → no_submit (takes_on_steps p end channel) ≡ true
unfolding takes_on_steps
takes_on-submit-none p end channel = simp (all_append, takes_submit-none)

takes_below-submit-none : (c : ℕ) (p : Pair) (end : ℕ) → no_submit (takes_below_steps c p end) ≡ true
unfolding takes_below_steps
takes_below-submit-none zero p end = refl
takes_below-submit-none (suc c) p end = simp (all_append, takes_below-submit-none c p end, takes_on-submit-none)

round_submits_none : (p : Pair) → no_submit (round_steps p) ≡ true
unfolding round_steps
round_submits_none p = simp (all_append, opening-submits-none, repeated-submit-none 1024 exchange_steps exchange_submits_none, takes_below-submit-none)

pub rounds_submit-none : (n : ℕ) (p : Pair) → no_submit (rounds_steps n p) ≡ true
unfolding rounds_steps
rounds_submit-none zero p = refl
rounds_submit-none (suc n) p = simp (all_append, rounds_submit-none n p, round_submits_none)

-- ---- quiet rounds accept nothing

pub rounds_accept_none : (p : Pair) (steps : List Step) (n : ℕ) (i : ℕ)
    → accepted i (history p (steps ++ rounds_steps n (after p steps))) ≡ accepted i (history p steps)
rounds_accept_none p steps n i =
    let q = after p steps in
    rw (
      history-append p steps (rounds_steps n q),
      accepted-append i (history p steps) (history q (rounds_steps n q)),
      none-accepted_by i (rounds_steps n q) (rounds_submit-none n q) q,
      append-nil,
    )
