-- `basics::fill_parts` meets its contract. The invariant: the parts passed are written, and behind them stand the old elements.
-- Assumes nothing.
use Rattle.std.proofs.Common.{ℕ, List, ◌≡◌, ◌*◌, ◌<◌, length, map, MutBor}
use Rattle.std.specs.List.{range_with_len}
use Rattle.basics.specs.Parts.{joined}
use Rattle.basics.proofs.Parts.{filled}
use Rattle.basics.proofs.fill_parts.Given as goal

abbrev pub invariant-loop-i : goal.invariant-loop-i
invariant-loop-i g l =
    (v : ℕ → List _) → ((i : ℕ) (x y : MutBor (List _)) → i < l.count → length x.now ≡ l.width → goal.F-post g l.put i x tt y → y.now ≡ v i)
    → (length (joined (map v (range_with_len 0 l.i))) ≡ l.width * l.i) × (l.list ≡ filled (l.width * l.i) (joined (map v (range_with_len 0 l.i))) l.initial.list)
