-- Laws of a list that is made element by element from another.
-- Assumes nothing.
use Prim.Native.Nat.{ℕ, ◌+◌, ◌≤◌, ◌<◌}
use mathlib.Core.Path.{◌≡◌}
use mathlib.Core.List.{List, [], ◌∷◌, ◌++◌, map, map-append}
use native.Mathlib.Numerals.{add-one}
use lib.ListN.{length, get_or, take, length-map}
use lib.Seq.{take-suc, length-take-le}

module _ {A B : Type 0} (f : A → B) (xs : List A) (i : ℕ) where
  pub length_made : i ≤ length xs → length (map f (take i xs)) ≡ i
  length_made h = rw length-map (length-take-le i xs h)

  -- one more
  pub made_more : (d : A) → i < length xs → map f (take (i + 1) xs) ≡ map f (take i xs) ++ (f (get_or xs i d) ∷ [])
  made_more d h = rw (add-one i, take-suc xs i d h, map-append)
