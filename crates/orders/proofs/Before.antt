-- Laws of the posted packets that stand before a packet: in two runs, where none is posted, and where one moves forward.
-- Assumes nothing.
use Rattle.std.specs.Prelude.{if◌then◌else◌}
use Prim.Native.Nat.{ℕ, zero, suc, ◌+◌, ◌≤◌, ◌<◌}
use mathlib.Core.Path.{◌≡◌, refl, sym, ap, ◌∙◌}
use mathlib.Core.Logic.{◌⊎◌, ⊎_elim}
use mathlib.Core.Bool.{Bool, true, false, not}
use mathlib.Core.List.{List, [], ◌∷◌, ◌++◌}
use native.Mathlib.Omega.{arith}
use native.Mathlib.Nat.{zero-add, le_refl, le_trans}
use lib.ListN.{length}
use Rattle.basics.specs.Lists.{all}
use Rattle.basics.proofs.Filters.{filter_none}
use Rattle.packets.specs.declared.Packet.{Packet}
use Rattle.packets.specs.declared.Category.{Category}
use Rattle.packets.specs.declared.Category.TheVariants.{Posted}
use Rattle.packets.specs.Packets.{category_of, same}
use Rattle.store.specs.Store.{is_of, of_category}
use Rattle.store.proofs.Categories.{own_category, same-category}
use Rattle.orders.specs.Orders.{counted, before, Follows}

-- ---- two runs

-- what f counts behind n that are passed over; nothing at these
abbrev behind : ℕ → (ℕ → ℕ) → ℕ → ℕ
behind zero f m = f m
behind (suc n) f zero = 0
behind (suc n) f (suc m) = behind n f m

behind-most : (k n m : ℕ) (f g : ℕ → ℕ) → ((j : ℕ) → f j ≤ k + g j) → behind n f m ≤ k + behind n g m
behind-most k zero m f g h = h m
behind-most k (suc n) zero f g h = omega arith
behind-most k (suc n) (suc m) f g h = behind-most k n m f g h

behind_early : (n m : ℕ) (f : ℕ → ℕ) → m < n → behind n f m ≡ 0
behind_early zero m f h = omega arith
behind_early (suc n) zero f h = refl
behind_early (suc n) (suc m) f h = behind_early n m f (omega arith)

behind-next : (n : ℕ) (f : ℕ → ℕ) → behind n f n ≡ f 0
behind-next zero f = refl
behind-next (suc n) f = behind-next n f

-- the posted before the m-th of two runs: those in the first, and those in the second where the m-th stands there
before-append : (c : Category) (a b : List Packet) (m : ℕ)
    → before c (a ++ b) m ≡ before c a m + behind (length (of_category c a)) (λ j. before c b j) m
unfolding before
before-append c [] b m = sym (zero-add (before c b m))
before-append c (x ∷ a) b m = go (is_of c x) (is_of Posted x) m (λ j. before c (a ++ b) j) (λ j. before c a j) (before-append c a b)
  where
    go : (own posted : Bool) (m : ℕ) (f g : ℕ → ℕ) → ((j : ℕ) → f j ≡ g j + behind (length (of_category c a)) (λ i. before c b i) j)
        → counted own posted m f ≡ counted own posted m g + behind (length (if own then x ∷ of_category c a else of_category c a)) (λ i. before c b i) m
    go true posted zero f g h = refl
    go true posted (suc m) f g h = h m
    go false true m f g h = omega (arith, h m)
    go false false m f g h = h m

-- at most all posted ones
before-most : (c : Category) (l : List Packet) (m : ℕ) → before c l m ≤ length (of_category Posted l)
unfolding before
before-most c [] m = le_refl 0
before-most c (x ∷ l) m = go (is_of c x) (is_of Posted x) m (λ j. before c l j) (before-most c l)
  where
    go : (own posted : Bool) (m : ℕ) (f : ℕ → ℕ) → ((j : ℕ) → f j ≤ length (of_category Posted l))
        → counted own posted m f ≤ length (if posted then x ∷ of_category Posted l else of_category Posted l)
    go true posted zero f h = omega arith
    go true true (suc m) f h = omega (arith, h m)
    go true false (suc m) f h = h m
    go false true m f h = omega (arith, h m)
    go false false m f h = h m

-- where none is posted none is counted
before-none : (c : Category) (l : List Packet) → all (λ p. not (is_of Posted p)) l ≡ true → (m : ℕ) → before c l m ≡ 0
before-none c l h m = let k = ap length (filter_none (is_of Posted) l h) in omega (arith, before-most c l m, k)

-- one of a category is posted where the category is
posted_same : (c : Category) (p : Packet) → is_of c p ≡ true → is_of Posted p ≡ same c Posted
posted_same c p e = ap (λ d. same d Posted) (same-category (category_of p) c e)

-- of a category that is not posted: where no m-th stands, all posted ones are counted
before-all : (c : Category) (l : List Packet) → same c Posted ≡ false → before c l (length (of_category c l)) ≡ length (of_category Posted l)
unfolding before
before-all c [] e = refl
before-all c (x ∷ l) e = go (is_of c x) (is_of Posted x) (λ t. posted_same c x t ∙ e) (before-all c l e)
  where
    go : (own posted : Bool) → (own ≡ true → posted ≡ false) → before c l (length (of_category c l)) ≡ length (of_category Posted l)
        → counted own posted (length (if own then x ∷ of_category c l else of_category c l)) (λ j. before c l j)
        ≡ length (if posted then x ∷ of_category Posted l else of_category Posted l)
    go true true f h = let z : true ≡ false = f refl in cc
    go true false f h = h
    go false true f h = ap suc h
    go false false f h = h

-- before a packet that is not posted stand the posted ones of the older
pub before_here : (older younger : List Packet) (q : Packet) → is_of Posted q ≡ false
    → before (category_of q) (older ++ q ∷ younger) (length (of_category (category_of q) older)) ≡ length (of_category Posted older)
unfolding before
before_here older younger q e =
    let n : ℕ = length (of_category (category_of q) older) in
    let rest : ℕ → ℕ = λ j. before (category_of q) (q ∷ younger) j in
    let none : rest 0 ≡ 0 = rw (own_category q) in
    omega (arith, before-append (category_of q) older (q ∷ younger) n, behind-next n rest, none, before-all (category_of q) older e)

-- before a packet of the first run stand at most the posted ones of that run
pub before-front : (c : Category) (a b : List Packet) (m : ℕ) → m < length (of_category c a) → before c (a ++ b) m ≤ length (of_category Posted a)
before-front c a b m h =
    omega (arith, before-append c a b m, behind_early (length (of_category c a)) m (λ j. before c b j) h, before-most c a m)

-- ---- what follows what

pub follows_same : (c : Category) (a : List Packet) → Follows c a a
follows_same c a = record { least = λ m. le_refl (before c a m) }

pub follows_trans : {c : Category} {a b d : List Packet} → Follows c a b → Follows c b d → Follows c a d
follows_trans f g = record { least = λ m. le_trans (f.least m) (g.least m) }

-- behind the same front
pub follows-front : {c : Category} {a b : List Packet} (l : List Packet) → Follows c a b → Follows c (l ++ a) (l ++ b)
follows-front {c} {a} {b} l f =
    record {
      least = λ m. omega (
        arith,
        before-append c l a m,
        before-append c l b m,
        behind-most 0 (length (of_category c l)) m (λ j. before c a j) (λ j. before c b j) (λ j. omega (arith, f.least j)),
      );
    }

-- before the same end, where both hold the same of the category
pub follows-end : {c : Category} {a b : List Packet} (l : List Packet) → of_category c a ≡ of_category c b → Follows c a b → Follows c (a ++ l) (b ++ l)
follows-end {c} {a} {b} l e f =
    record { least = λ m. rw (before-append c a l m, before-append c b l m, e) (omega (arith, f.least m)) }

-- one moves forward: past none of its category, and it is posted or passes no posted one
pub follows-moved : (c : Category) (u v : List Packet) (x : Packet) → all (λ p. not (is_of (category_of x) p)) u ≡ true
    → (is_of Posted x ≡ true) ⊎ (all (λ p. not (is_of Posted p)) u ≡ true) → Follows c (u ++ x ∷ v) (x ∷ (u ++ v))
unfolding before
follows-moved c u v x own free =
    record {
      least = λ m. rw (before-append c u (x ∷ v) m, none m, zero-add)
          (go (is_of c x) (is_of Posted x) m (length (of_category c u)) (λ j. before c v j) (λ j. before c (u ++ v) j) rest first);
    }
  where
    -- in both cases it passes no posted one
    none : (j : ℕ) → before c u j ≡ 0
    none = before-none c u (⊎_elim (λ posted. rw (same-category (category_of x) Posted posted) at own) (λ f. f) free)

    rest : (j : ℕ) → before c (u ++ v) j ≡ behind (length (of_category c u)) (λ i. before c v i) j
    rest j = omega (arith, before-append c u v j, none j)

    first : is_of c x ≡ true → length (of_category c u) ≡ 0
    first t = ap length (filter_none (is_of c) u (rw (same-category (category_of x) c t) at own))

    go : (own posted : Bool) (m n : ℕ) (f g : ℕ → ℕ) → ((j : ℕ) → g j ≡ behind n f j) → (own ≡ true → n ≡ 0)
        → behind n (λ j. counted own posted j f) m ≤ counted own posted m g
    go true posted zero n f g e k = rw (k refl) (le_refl 0)
    go true posted (suc m) n f g e k = rw (e m, k refl) (le_refl (f m))
    go false true m n f g e k = omega (arith, e m, behind-most 1 n m (λ j. suc (f j)) f (λ j. omega arith))
    go false false m n f g e k = omega (arith, e m)
