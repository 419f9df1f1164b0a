-- Laws of a sum over a list.
-- Assumes nothing.
use Prim.Native.Nat.{ℕ, ◌+◌}
use mathlib.Core.Path.{◌≡◌, sym}
use mathlib.Core.List.{List, [], ◌∷◌, ◌++◌}
use native.Mathlib.Nat.{add_assoc, zero-add}
use Rattle.basics.specs.Lists.{total}

-- the sum over two runs is the sum of their sums
pub total-append : {A : Type 0} (f : A → ℕ) (a b : List A) → total f (a ++ b) ≡ total f a + total f b
total-append f [] b = sym (zero-add (total f b))
total-append f (x ∷ a) b = rw (total-append f a b, add_assoc)
