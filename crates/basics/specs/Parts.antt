-- A list as parts of one width, one after the other.
-- Assumes nothing.
use Rattle.std.specs.Prelude.{ℕ, zero, suc, List, [], ◌∷◌, ◌++◌, take, drop}

-- the w elements from a place on
abbrev pub part : {A : Type 0} → List A → ℕ → ℕ → List A
part l at w = take w (drop at l)

-- the first n parts of w elements each
unfoldable pub cut : {A : Type 0} → ℕ → ℕ → List A → List (List A)
cut w zero l = []
cut w (suc n) l = take w l ∷ cut w n (drop w l)

-- the parts in a row
unfoldable pub joined : {A : Type 0} → List (List A) → List A
joined [] = []
joined (x ∷ xs) = x ++ joined xs
