-- A run whose pair is kept in memory: when its pair will stay in shape, and what the memory and the counts mean together.
-- Assumes nothing.
use Rattle.std.specs.Prelude.{ℕ, Bool, ◌&&◌, List, ◌==◌}
use Rattle.setup.specs.declared.Setup.{Setup}
use Rattle.script.specs.declared.Step.{Step}
use Rattle.script.specs.Step.{is_submit, is_take}
use Rattle.pairs.specs.declared.Pair.{Pair}
use Rattle.pairs.specs.Pairs.{end_at}
use Rattle.pairs.specs.Steps.{pair_in_shape}
use Rattle.words.specs.Memory.{pair_in}
use Rattle.runs.specs.declared.Counted.{Counted}
use Rattle.runs.specs.declared.Run.{Run}
use Rattle.runs.specs.Runs.{run, grown}

-- it is in shape, and both ends use as many channels: then it is in shape after every step (lasting/proofs/Pairs)
unfoldable pub will_last : Pair → Bool
will_last p = pair_in_shape p && (end_at p 0).setup.n == (end_at p 1).setup.n

abbrev pub counted : List ℕ → List ℕ → Counted
counted accepted taken = record { accepted = accepted; taken = taken }

-- after a step that was made or refused
unfoldable pub counted_after : Counted → Step → Bool → Counted
counted_after c t made = record {
  accepted = grown c.accepted t.end (is_submit t.step && made);
  taken = grown c.taken t.end (is_take t.step && made);
}

-- the pair in this memory, with these counts
abbrev pub run_in : List Setup → List ℕ → Counted → Run
run_in links m c = run (pair_in links m) c.accepted c.taken
