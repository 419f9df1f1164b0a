-- A quiet round as a list of steps, part by part. Document 01, "Quiet round".
-- Which Takes there are depends on what is refused, so those parts are of the pair that they start from. Assumes nothing.
use Rattle.std.specs.Prelude.{ℕ, zero, suc, List, [], ◌∷◌, ◌++◌, eqb, if◌then◌else◌}
use Rattle.script.specs.declared.Step.{Step}
use Rattle.setup.specs.Setup.{channels}
use Rattle.pairs.specs.declared.Pair.{Pair}
use Rattle.pairs.specs.Steps.{step_of}
use Rattle.rounds.specs.Rounds.{plain, exchange, times, take_of, take_until, most_takes, takes_below, takes_at, opening, quiet_rounds}

-- the pair after the steps
unfoldable pub after : Pair → List Step → Pair
after p [] = p
after p (t ∷ ts) = after (step_of p t).pair ts

-- Take is step 6, by channel and category
abbrev pub take_step : ℕ → ℕ → ℕ → Step
take_step end channel category = record { step = 6; end = end; class = channel; kind = category; length = 0; ident = 0 }

-- Timer at 0, at 1; Refresh at 0, at 1
unfoldable pub opening_steps : List Step
opening_steps = plain 7 0 ∷ plain 7 1 ∷ plain 8 0 ∷ plain 8 1 ∷ []

-- Send 0, Arrive 1, Send 1, Arrive 0
unfoldable pub exchange_steps : List Step
exchange_steps = plain 2 0 ∷ plain 3 1 ∷ plain 2 1 ∷ plain 3 0 ∷ []

-- some steps, n times
unfoldable pub repeated : ℕ → List Step → List Step
repeated zero ts = []
repeated (suc n) ts = repeated n ts ++ ts

-- Take until refused, at most so many times; the refused one is the last
unfoldable pub take_steps : ℕ → Pair → ℕ → ℕ → ℕ → List Step
take_steps zero p end channel category = []
take_steps (suc most) p end channel category =
    take_step end channel category
    ∷ (if eqb (take_of p end channel category).answer 0 then take_steps most (take_of p end channel category).pair end channel category
    else [])

-- P 0 until refused, then NP 1, then C 2
unfoldable pub takes_on_steps : Pair → ℕ → ℕ → List Step
takes_on_steps p end channel =
    let afterPosted = take_until most_takes p end channel 0 in
    let after_both = take_until most_takes afterPosted end channel 1 in
    take_steps most_takes p end channel 0 ++ take_steps most_takes afterPosted end channel 1 ++ take_steps most_takes after_both end channel 2

-- for each channel from 0 up to c
unfoldable pub takes_below_steps : ℕ → Pair → ℕ → List Step
takes_below_steps zero p end = []
takes_below_steps (suc c) p end = takes_below_steps c p end ++ takes_on_steps (takes_below c p end) end c

abbrev pub takes_at_steps : Pair → ℕ → List Step
takes_at_steps p end = takes_below_steps channels p end

unfoldable pub round_steps : Pair → List Step
round_steps p =
    let exchanged = times 1024 exchange (opening p) in
    opening_steps ++ repeated 1024 exchange_steps ++ takes_at_steps exchanged 0 ++ takes_at_steps (takes_at exchanged 0) 1

-- n rounds, the last one at the end
unfoldable pub rounds_steps : ℕ → Pair → List Step
rounds_steps zero p = []
rounds_steps (suc n) p = rounds_steps n p ++ round_steps (quiet_rounds n p)
