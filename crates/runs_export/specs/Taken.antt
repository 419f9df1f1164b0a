-- How many packets are taken in the run of a script.
-- Assumes nothing.
use Rattle.std.specs.Prelude.{ℕ, List, length, ◌==◌, slice_index, if◌then◌else◌}
use Rattle.counters.specs.Wrapped.{plus}
use Rattle.setup.specs.declared.Setup.{Setup}
use Rattle.script.specs.Script.{list_after, read_script, steps_in}
use Rattle.pairs.specs.Pairs as pairs
use Rattle.runs.specs.declared.Run.{Run}
use Rattle.runs.specs.Runs.{run_of, start_of}

-- at both ends, modulo 2 ^ 32: no script has so many steps
unfoldable pub taken_by : Run → ℕ
taken_by r = plus 4294967296 (slice_index r.taken 0) (slice_index r.taken 1)

-- a run of no steps yet
abbrev pub fresh_of : Setup → Run
fresh_of link = start_of (pairs.start_of link).pair

-- by the first steps of a list of numbers, six for each, on a fresh pair
unfoldable pub taken_after : Setup → List ℕ → ℕ → ℕ
taken_after link l count = taken_by (run_of (fresh_of link) (steps_in l count))

-- by the script's steps alone; none where the script is refused
unfoldable pub taken_in : List ℕ → List ℕ → ℕ
taken_in b l =
    let r = read_script b (length l) in
    if r.answer == 0 then taken_after r.setup (list_after b l) r.count else 0
