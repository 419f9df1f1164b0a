-- A quiet round is its steps, part by part.
-- Assumes nothing.
use Prim.Native.Nat.{ℕ, zero, suc}
use mathlib.Core.Path.{◌≡◌, refl, sym}
use mathlib.Core.List.{List, [], ◌++◌}
use borrow.Author.Tests.{eqb-false}
use lib.Dec.{eqb}
use Rattle.basics.proofs.Each.{by_bool}
use Rattle.setup.specs.Setup.{channels}
use Rattle.script.specs.declared.Step.{Step}
use Rattle.pairs.specs.declared.Pair.{Pair}
use Rattle.pairs.specs.Steps.{step_of}
use Rattle.rounds.specs.Rounds.{did, exchange, times, take_of, take_until, most_takes, takes_on, takes_below, takes_at, opening, quiet_round, quiet_rounds}
use Rattle.rows.specs.Rows.{after, take_step, opening_steps, exchange_steps, repeated, take_steps, takes_on_steps, takes_below_steps, takes_at_steps, round_steps, rounds_steps}
use Rattle.rows.proofs.Refused.{refused-same}
use Rattle.rows.proofs.After.{after-append}

-- no steps, and the steps of two parts in turn
none : (p : Pair) → p ≡ after p []
unfolding after
none p = refl

in_turn : (p : Pair) {q r : Pair} (a b : List Step) → q ≡ after p a → r ≡ after q b → r ≡ after p (a ++ b)
in_turn p a b e f = rw (after-append p a b, ← e) f

pub opening-row : (p : Pair) → opening p ≡ after p opening_steps
unfolding opening did after opening_steps
opening-row p = refl

-- ---- the exchanges

pub exchange-row : (p : Pair) → exchange p ≡ after p exchange_steps
unfolding exchange did after exchange_steps
exchange-row p = refl

-- a change that is always the same steps, n times
pub times-row : (f : Pair → Pair) (ts : List Step) → ((p : Pair) → f p ≡ after p ts) → (n : ℕ) (p : Pair) → times n f p ≡ after p (repeated n ts)
unfolding times repeated
times-row f ts e zero p = none p
times-row f ts e (suc n) p = in_turn p _ _ (times-row f ts e n p) (e (times n f p))

pub exchanges-row : (n : ℕ) (p : Pair) → times n exchange p ≡ after p (repeated n exchange_steps)
exchanges-row n p = times-row exchange exchange_steps exchange-row n p

-- ---- the Takes

-- the refused one changes nothing
pub takes_row : (most : ℕ) (p : Pair) (end channel category : ℕ) → take_until most p end channel category ≡ after p (take_steps most p end channel category)
unfolding take_until take_steps after take_of
takes_row zero p end channel category = refl
takes_row (suc most) p end channel category =
    let t = take_step end channel category in
    by_bool (eqb (step_of p t).answer 0)
    (λ e. rw e (takes_row most (step_of p t).pair end channel category))
    (λ e. rw e (sym (refused-same p t (eqb-false (step_of p t).answer 0 e))))

pub takes_on-row : (p : Pair) (end channel : ℕ) → takes_on p end channel ≡ after p (takes_on_steps p end channel)
unfolding takes_on takes_on_steps
takes_on-row p end channel =
    in_turn p _ _ (in_turn p _ _ (takes_row most_takes p end channel 0) (takes_row most_takes _ end channel 1)) (takes_row most_takes _ end channel 2)

pub takes_below-row : (c : ℕ) (p : Pair) (end : ℕ) → takes_below c p end ≡ after p (takes_below_steps c p end)
unfolding takes_below takes_below_steps
takes_below-row zero p end = none p
takes_below-row (suc c) p end = in_turn p _ _ (takes_below-row c p end) (takes_on-row (takes_below c p end) end c)

pub takes_at-row : (p : Pair) (end : ℕ) → takes_at p end ≡ after p (takes_at_steps p end)
takes_at-row p end = takes_below-row channels p end

-- ---- the round

pub round-row : (p : Pair) → quiet_round p ≡ after p (round_steps p)
unfolding quiet_round round_steps
round-row p = in_turn p _ _ (in_turn p _ _ (in_turn p _ _ (opening-row p) (exchanges-row 1024 _)) (takes_at-row _ 0)) (takes_at-row _ 1)

pub rounds_row : (n : ℕ) (p : Pair) → quiet_rounds n p ≡ after p (rounds_steps n p)
unfolding quiet_rounds times rounds_steps
rounds_row zero p = none p
rounds_row (suc n) p = in_turn p _ _ (rounds_row n p) (round-row (quiet_rounds n p))
