-- What a search says: where it found a place, that place passes the test and none before it does; where it found none, none does.
-- Assumes nothing.
use Rattle.std.specs.Prelude.{if◌then◌else◌, Some, None, Option, ℕ}
use Prim.Native.Nat.{ℕ, zero, suc, ◌+◌, ◌-◌, ◌<◌, ◌≤◌}
use mathlib.Core.Path.{◌≡◌, refl, sym, ap}
use mathlib.Core.Bool.{Bool, true, false, not}
use mathlib.Core.List.{List, [], ◌∷◌, ◌++◌, append-nil}
use native.Mathlib.Omega.{arith}
use native.Mathlib.Nat.{sub-zero, not-suc-le-zero, le_of_suc-le-suc}
use lib.ListN.{length, get_or, take}
use lib.Seq.{append_snoc}
use Rattle.basics.specs.Lists.{all, find, find_after}

-- a place that was found is one place
abbrev pub place_of : Option ℕ → ℕ
place_of (Some i) = i
place_of None = 0

-- nothing is no place
pub apart : {B : Type 0} (i : ℕ) → None ≡ Some i → B
apart i e = let z : ◌≡◌ {A = ℕ} 0 1 = cc in absurd (omega arith)

module _ {A : Type 0} (d : A) where
  module _ (ok : A → Bool) where
    -- found at i, counted from k
    abbrev Finds : List A → ℕ → ℕ → Type 0
    Finds l k i = (k ≤ i) × (i - k < length l) × (ok (get_or l (i - k) d) ≡ true) × (all (λ x. not (ok x)) (take (i - k) l) ≡ true)

    finds : (l : List A) (k i : ℕ) → find ok l k ≡ Some i → Finds l k i
    finds [] k i e = apart i e
    finds (x ∷ l) k i e = go (ok x) refl e (finds l (k + 1) i)
      where
        go : (t : Bool) → ok x ≡ t → (if t then Some k else find ok l (k + 1)) ≡ Some i → (find ok l (k + 1) ≡ Some i → Finds l (k + 1) i) → Finds (x ∷ l) k i
        go true t e f =
            let s : k ≡ i = ap place_of e in
            let z : i - k ≡ 0 = omega arith in
            (omega arith, rw z (omega arith), rw z t, rw z)
        go false t e f =
            let g = f e in
            let z : i - k ≡ suc (i - (k + 1)) = omega (arith, g.0) in
            (omega (arith, g.0), rw z (omega (arith, g.1)), rw z g.2, rw (z, t) g.3)

    pub found_first : (l : List A) (i : ℕ) → find ok l 0 ≡ Some i
        → (i < length l) × (ok (get_or l i d) ≡ true) × (all (λ x. not (ok x)) (take i l) ≡ true)
    found_first l i e =
        let f = finds l 0 i e in
        (rw sub-zero at f.1, rw sub-zero at f.2, rw sub-zero at f.3)

    pub found_nothing : (l : List A) (k : ℕ) → find ok l k ≡ None → all (λ x. not (ok x)) l ≡ true
    found_nothing [] k e = refl
    found_nothing (x ∷ l) k e = go (ok x) refl e (found_nothing l (k + 1))
      where
        go : (t : Bool) → ok x ≡ t → (if t then Some k else find ok l (k + 1)) ≡ None → (find ok l (k + 1) ≡ None → all (λ y. not (ok y)) l ≡ true)
            → all (λ y. not (ok y)) (x ∷ l) ≡ true
        go true t e f = apart k (sym e)
        go false t e f = rw t (f e)

  -- ---- where the test looks also at those before

  module _ (ok : List A → A → Bool) where
    abbrev FindsAfter : List A → List A → ℕ → ℕ → Type 0
    FindsAfter older l k i = (k ≤ i) × (i - k < length l) × (ok (older ++ take (i - k) l) (get_or l (i - k) d) ≡ true)

    finds_after : (older l : List A) (k i : ℕ) → find_after ok older l k ≡ Some i → FindsAfter older l k i
    finds_after older [] k i e = apart i e
    finds_after older (x ∷ l) k i e = go (ok older x) refl e (finds_after (older ++ (x ∷ [])) l (k + 1) i)
      where
        go : (t : Bool) → ok older x ≡ t → (if t then Some k else find_after ok (older ++ (x ∷ [])) l (k + 1)) ≡ Some i
            → (find_after ok (older ++ (x ∷ [])) l (k + 1) ≡ Some i → FindsAfter (older ++ (x ∷ [])) l (k + 1) i) → FindsAfter older (x ∷ l) k i
        go true t e f =
            let s : k ≡ i = ap place_of e in
            let z : i - k ≡ 0 = omega arith in
            (omega arith, rw z (omega arith), rw (z, append-nil) t)
        go false t e f =
            let g = f e in
            let z : i - k ≡ suc (i - (k + 1)) = omega (arith, g.0) in
            (omega (arith, g.0), rw z (omega (arith, g.1)), rw z (rw append_snoc at g.2))

    -- it passes the test, by those before it
    pub found_after : (l : List A) (i : ℕ) → find_after ok [] l 0 ≡ Some i → (i < length l) × (ok (take i l) (get_or l i d) ≡ true)
    found_after l i e =
        let f = finds_after [] l 0 i e in
        (rw sub-zero at f.1, rw sub-zero at f.2)

    -- each one fails it, by those before it
    nothing-after : (older l : List A) (k j : ℕ) → find_after ok older l k ≡ None → j < length l → ok (older ++ take j l) (get_or l j d) ≡ false
    nothing-after older [] k j e h = absurd (not-suc-le-zero h)
    nothing-after older (x ∷ l) k j e h = go (ok older x) refl j e h (nothing-after (older ++ (x ∷ [])) l (k + 1))
      where
        go : (t : Bool) → ok older x ≡ t → (j : ℕ) → (if t then Some k else find_after ok (older ++ (x ∷ [])) l (k + 1)) ≡ None → j < length (x ∷ l)
            → ((j : ℕ) → find_after ok (older ++ (x ∷ [])) l (k + 1) ≡ None → j < length l → ok ((older ++ (x ∷ [])) ++ take j l) (get_or l j d) ≡ false)
            → ok (older ++ take j (x ∷ l)) (get_or (x ∷ l) j d) ≡ false
        go true t j e h f = apart k (sym e)
        go false t zero e h f = rw append-nil t
        go false t (suc j) e h f = rw append_snoc at (f j e (le_of_suc-le-suc h))

    pub found-nothing-after : (l : List A) (j : ℕ) → find_after ok [] l 0 ≡ None → j < length l → ok (take j l) (get_or l j d) ≡ false
    found-nothing-after l j e h = nothing-after [] l 0 j e h
