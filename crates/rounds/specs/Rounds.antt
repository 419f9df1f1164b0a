-- A quiet round as a row of the pair's steps. Document 01, "Quiet round".
-- Assumes nothing.
use Rattle.std.specs.Prelude.{ℕ, zero, suc, eqb, if◌then◌else◌}
use Rattle.script.specs.declared.Step.{Step}
use Rattle.setup.specs.Setup.{channels}
use Rattle.pairs.specs.declared.Pair.{Pair}
use Rattle.pairs.specs.Pairs.{Done}
use Rattle.pairs.specs.Steps.{step_of}

-- Send 2, Arrive 3, Timer 7 and Refresh 8 have no use for the other fields
abbrev pub plain : ℕ → ℕ → Step
plain step end = record { step = step; end = end; class = 0; kind = 0; length = 0; ident = 0 }

-- the pair after a plain step; a refused one leaves it as it was
unfoldable pub did : Pair → ℕ → ℕ → Pair
did p step end = (step_of p (plain step end)).pair

-- Send 0, Arrive 1, Send 1, Arrive 0
unfoldable pub exchange : Pair → Pair
exchange p = did (did (did (did p 2 0) 3 1) 2 1) 3 0

-- a change of the pair, n times
unfoldable pub times : ℕ → (Pair → Pair) → Pair → Pair
times zero change p = p
times (suc n) change p = change (times n change p)

-- Take is step 6, by channel and category
unfoldable pub take_of : Pair → ℕ → ℕ → ℕ → Done
take_of p end channel category = step_of p (record { step = 6; end = end; class = channel; kind = category; length = 0; ident = 0 })

-- Take until refused, at most so many times
unfoldable pub take_until : ℕ → Pair → ℕ → ℕ → ℕ → Pair
take_until zero p end channel category = p
take_until (suc most) p end channel category =
    if eqb (take_of p end channel category).answer 0 then take_until most (take_of p end channel category).pair end channel category
    else p

-- a receive buffer has 48 places and each Take empties one, so the 49th is refused, if none was before
abbrev pub most_takes : ℕ
most_takes = 49

-- P 0 until refused, then NP 1, then C 2
unfoldable pub takes_on : Pair → ℕ → ℕ → Pair
takes_on p end channel =
    take_until most_takes (take_until most_takes (take_until most_takes p end channel 0) end channel 1) end channel 2

-- for each channel from 0 up, below c; one that is not in use refuses its Takes with 20
unfoldable pub takes_below : ℕ → Pair → ℕ → Pair
takes_below zero p end = p
takes_below (suc c) p end = takes_on (takes_below c p end) end c

abbrev pub takes_at : Pair → ℕ → Pair
takes_at p end = takes_below channels p end

-- Timer at 0, at 1; Refresh at 0, at 1
unfoldable pub opening : Pair → Pair
opening p = did (did (did (did p 7 0) 7 1) 8 0) 8 1

unfoldable pub quiet_round : Pair → Pair
quiet_round p = takes_at (takes_at (times 1024 exchange (opening p)) 0) 1

unfoldable pub quiet_rounds : ℕ → Pair → Pair
quiet_rounds n p = times n quiet_round p
