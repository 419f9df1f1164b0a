-- Words for lists: sums, tests of every element, what passes a test, and the first place that does.
-- Assumes nothing.
use Rattle.std.specs.Prelude.{ℕ, ◌+◌, Bool, true, ◌&&◌, List, [], ◌∷◌, ◌++◌, if◌then◌else◌, Some, None, Option}

-- what the elements make together, each by f
abbrev pub total : {A : Type 0} → (A → ℕ) → List A → ℕ
total f [] = 0
total f (x ∷ xs) = f x + total f xs

-- the test holds of every element
abbrev pub all : {A : Type 0} → (A → Bool) → List A → Bool
all ok [] = true
all ok (x ∷ xs) = ok x && all ok xs

-- the elements that pass the test, in their order
abbrev pub filter : {A : Type 0} → (A → Bool) → List A → List A
filter ok [] = []
filter ok (x ∷ xs) = if ok x then x ∷ filter ok xs else filter ok xs

-- the place of the first element that passes the test, counted from i
abbrev pub find : {A : Type 0} → (A → Bool) → List A → ℕ → Option ℕ
find ok [] i = None
find ok (x ∷ xs) i = if ok x then Some i else find ok xs (i + 1)

-- the same where the test looks also at the elements before: `older`, then those passed on the way
abbrev pub find_after : {A : Type 0} → (List A → A → Bool) → List A → List A → ℕ → Option ℕ
find_after ok older [] i = None
find_after ok older (x ∷ xs) i = if ok older x then Some i else find_after ok (older ++ (x ∷ [])) xs (i + 1)
