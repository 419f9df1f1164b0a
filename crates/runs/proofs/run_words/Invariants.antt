-- `runs::run_words` meets its contract: the invariant: the pair in the memory is that of the run so far and stays in shape, and the list holds the answers.
-- Assumes nothing.
use Rattle.std.proofs.Common.{◌≡◌, length}
use Rattle.script.specs.Script.{steps_in}
use Rattle.words.specs.Memory.{pair_words, pair_in}
use Rattle.lasting.proofs.Pairs.{Sound}
use Rattle.runs.specs.Kept.{run_in}
use Rattle.runs.specs.Runs.{answers_of, filled, run_of}
use Rattle.runs.proofs.run_words.Given as goal

abbrev pub invariant-loop-i : goal.invariant-loop-i
invariant-loop-i l =
    (length l.m ≡ pair_words) × (length l.out ≡ length l.initial.out) × Sound (pair_in l.links l.m) × (run_in l.links l.m l.c ≡ run_of (run_in l.links l.initial.m l.initial.c) (steps_in l.l l.i))
    × (l.out ≡ filled l.initial.out (answers_of (run_in l.links l.initial.m l.initial.c) (steps_in l.l l.i)))
