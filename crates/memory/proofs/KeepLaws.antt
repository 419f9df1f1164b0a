-- Laws of words that a refusal leaves as they were.
-- Assumes nothing.
use Prim.Native.Nat.{ℕ}
use mathlib.Core.Path.{◌≡◌, refl, sym, ◌∙◌}
use mathlib.Core.Bool.{Bool, true, true≢false}
use mathlib.Core.List.{List, ◌++◌}
use lib.ListN.{take, drop, take-append-drop}
use Rattle.basics.specs.Parts.{part}
use Rattle.memory.specs.Said.{Keeps}

-- a step that is made may change every word
pub made_as : {m w : List ℕ} (t : Bool) → t ≡ true → Keeps t m w
made_as t e n = absurd (true≢false (sym e ∙ n))

pub made : {m w : List ℕ} → Keeps true m w
made = made_as true refl

-- a lent part that comes back as it was leaves the whole as it was
pub keeps-back : (m : List ℕ) (a k : ℕ) (ys : List ℕ) (t : Bool) → Keeps t (part m a k) ys → Keeps t m (take a m ++ (ys ++ drop k (drop a m)))
keeps-back m a k ys t h n = rw (h n, take-append-drop k (drop a m)) (take-append-drop a m)
