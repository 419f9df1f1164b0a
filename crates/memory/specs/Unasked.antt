-- One step of a pair, without asking first for its shape: for whoever knows that the pair is in shape.
-- Assumes nothing.
use Rattle.std.specs.Prelude.{Bool, true, false, not, List, [], ◌∷◌, eqb, ltb, if◌then◌else◌}
use Rattle.setup.specs.declared.Setup.{Setup}
use Rattle.script.specs.declared.Step.{Step}
use Rattle.script.specs.Step.{formed}
use Rattle.pairs.specs.declared.Pair.{Pair}
use Rattle.pairs.specs.Pairs.{Done}
use Rattle.pairs.specs.Pairs.{done, end_at}
use Rattle.ends.specs.declared.End.{End}
use Rattle.ends.specs.Ends.{Stepped}
use Rattle.frames.specs.declared.Frame.{Frame}
use Rattle.ends.specs.Ends.{submit_of, arrive_of, damage_of, take_at, timer_of, refresh_of}
use Rattle.pairs.specs.Steps.{packet_of, act}

-- 11: end not 0 or 1; 6: a step out of form; then the step itself
unfoldable pub unasked : Pair → Step → Done
unasked p t =
    if ltb 1 t.end then done p 11 0
    else if not (formed t) then done p 6 0
    else act p t

-- ---- a step of one end alone, by its six fields: Submit, Take, Timer; else Refresh

abbrev pub end_step : End → Step → Stepped
end_step e t =
    if eqb t.step 1 then submit_of e (packet_of t)
    else if eqb t.step 6 then take_at e t.class t.kind
    else if eqb t.step 7 then timer_of e
    else refresh_of e

-- ---- what a frame does at an end that it reaches, whole or damaged

abbrev pub frame_step : Bool → End → Frame → Stepped
frame_step true = arrive_of
frame_step false = damage_of

-- ---- the setups of the two ends, each as its end sees it

abbrev pub setups_of : Pair → List Setup
setups_of p = (end_at p 0).setup ∷ (end_at p 1).setup ∷ []
