-- A test that is asked of many: of each number below a bound, and of a list up to the first that fails.
-- Assumes nothing.
use Rattle.std.specs.Prelude.{ℕ, zero, suc, Bool, true, ◌&&◌, List, [], ◌∷◌, if◌then◌else◌}

-- does the test hold of each number below n?
unfoldable pub each : ℕ → (ℕ → Bool) → Bool
each zero f = true
each (suc n) f = each n f && f n

-- how many of a list hold before the first that fails; its length, if none fails
unfoldable pub first_not : {A : Type 0} → (A → Bool) → List A → ℕ
first_not f [] = 0
first_not f (x ∷ xs) = if f x then suc (first_not f xs) else 0
