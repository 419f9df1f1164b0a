-- Laws of a number's digits: how they go on from those of the tenth, how many there are, and that they are the number.
-- Assumes nothing.
use Prim.Native.Nat.{ℕ, zero, suc, ◌+◌, ◌-◌, ◌*◌, ◌/◌, ◌%◌, ◌≤◌, ◌<◌}
use mathlib.Core.Path.{◌≡◌, refl}
use mathlib.Core.List.{List, [], ◌∷◌, ◌++◌}
use native.Mathlib.Nat.{not-suc-le-zero}
use native.Mathlib.Omega.{arith}
use lib.ListN.{length, get_or, length-append, get_or-append}
use lib.Seq.{get_or_at}
use borrow.Author.Tests.{lt-ltb, le-ltb}
use Rattle.basics.proofs.Each.{by_order_lem}
use Rattle.listing.specs.Listing.{digits, digits_within}

-- ---- from the tenth to the number

-- with room enough, the room makes no difference
within_same : (f g n : ℕ) → n < f → n < g → digits_within f n ≡ digits_within g n
unfolding digits_within
within_same zero g n h k = absurd (not-suc-le-zero h)
within_same (suc f) zero n h k = absurd (not-suc-le-zero k)
within_same (suc f) (suc g) n h k =
    by_order_lem n 10
    (λ (s : n < 10). rw (lt-ltb n 10 s))
    (λ (s : 10 ≤ n). rw (le-ltb n 10 s, within_same f g (n / 10) (omega arith) (omega arith)))

pub digits_one : (n : ℕ) → n < 10 → digits n ≡ (48 + n) ∷ []
unfolding digits digits_within
digits_one n h = rw (lt-ltb n 10 h)

pub digits_more : (n : ℕ) → 10 ≤ n → digits n ≡ digits (n / 10) ++ ((48 + n % 10) ∷ [])
unfolding digits digits_within
digits_more n h = rw (le-ltb n 10 h, within_same n (suc (n / 10)) (n / 10) (omega arith) (omega arith))

-- what holds of the numbers below ten, and of a number if of its tenth, holds of all
pub by_digits : (P : ℕ → Type 0) → ((n : ℕ) → n < 10 → P n) → ((n : ℕ) → 10 ≤ n → P (n / 10) → P n) → (n : ℕ) → P n
by_digits P one more n = go (suc n) n (omega arith)
  where
    go : (f n : ℕ) → n < f → P n
    go zero n h = absurd (not-suc-le-zero h)
    go (suc f) n h = by_order_lem n 10 (λ (s : n < 10). one n s) (λ (s : 10 ≤ n). more n s (go f (n / 10) (omega arith)))

-- ---- how many

pub length_one : (n : ℕ) → n < 10 → length (digits n) ≡ 1
length_one n h = rw (digits_one n h)

pub length_more : (n : ℕ) → 10 ≤ n → length (digits n) ≡ length (digits (n / 10)) + 1
length_more n h = rw (digits_more n h, length-append)

pub some_digits : (n : ℕ) → 1 ≤ length (digits n)
some_digits n = by_order_lem n 10 (λ (s : n < 10). omega (arith, length_one n s)) (λ (s : 10 ≤ n). omega (arith, length_more n s))

-- the number without its last k digits
unfoldable without : ℕ → ℕ → ℕ
without zero n = n
without (suc k) n = without k (n / 10)

length-within : (k n : ℕ) → without k n < 10 → length (digits n) ≤ k + 1
unfolding without
length-within zero n h = omega (arith, length_one n h)
length-within (suc k) n h =
    by_order_lem n 10
    (λ (s : n < 10). omega (arith, length_one n s))
    (λ (s : 10 ≤ n). omega (arith, length_more n s, length-within k (n / 10) h))

-- a number of 32 bits has at most ten
pub at-most_ten : (n : ℕ) → n < 4294967296 → length (digits n) ≤ 10
unfolding without
at-most_ten n h = length-within 9 n (omega arith)

length-least : (k n : ℕ) → 0 < without k n → k + 1 ≤ length (digits n)
unfolding without
length-least zero n h = omega (arith, some_digits n)
length-least (suc k) n h =
    by_order_lem n 10
    (λ (s : n < 10). let z : n / 10 ≡ 0 = omega arith in absurd (omega (arith, none k, rw z at h)))
    (λ (s : 10 ≤ n). omega (arith, length_more n s, length-least k (n / 10) h))
  where
    none : (k : ℕ) → without k 0 ≡ 0
    none zero = refl
    none (suc k) = none k

-- and the greatest has ten
pub ten_digits : length (digits 4294967295) ≡ 10
unfolding without
ten_digits = omega (arith, at-most_ten 4294967295 (omega arith), length-least 9 4294967295 (omega arith))

-- ---- the digits are the number

-- what a row of digits says, behind the number that was read before them
unfoldable pub read_on : ℕ → List ℕ → ℕ
read_on before [] = before
read_on before (d ∷ ds) = read_on (10 * before + (d - 48)) ds

unfoldable pub value : List ℕ → ℕ
value ds = read_on 0 ds

read-append : (b : ℕ) (l m : List ℕ) → read_on b (l ++ m) ≡ read_on (read_on b l) m
unfolding read_on
read-append b [] m = refl
read-append b (x ∷ xs) m = read-append (10 * b + (x - 48)) xs m

-- reading the digits gives the number back
pub digits_value : (n : ℕ) → value (digits n) ≡ n
unfolding read_on value
digits_value =
    by_digits (λ n. read_on 0 (digits n) ≡ n)
    (λ n h. rw (digits_one n h) (omega arith))
    (λ n h e. rw (digits_more n h, read-append, e) (omega arith))

-- the bytes of the digits 0 to 9
abbrev pub IsDigit : ℕ → Type 0
IsDigit d = (48 ≤ d) × (d ≤ 57)

pub all_digits : (n i : ℕ) → i < length (digits n) → IsDigit (get_or (digits n) i 0)
all_digits =
    by_digits (λ n. (i : ℕ) → i < length (digits n) → IsDigit (get_or (digits n) i 0))
    (λ n h i k.
    let z : i ≡ 0 = omega (arith, length_one n h) in
    rw (z, digits_one n h) (omega arith, omega arith))
    (λ n h e i k.
    let m = length_more n h in
    rw (digits_more n h) (
    by_order_lem i (length (digits (n / 10)))
    (λ (l : i < length (digits (n / 10))). rw (get_or-append (digits (n / 10)) ((48 + n % 10) ∷ []) 0 i l) (e i l))
    (λ (l : length (digits (n / 10)) ≤ i).
    let z : length (digits (n / 10)) ≡ i = omega arith in
    rw (get_or_at (digits (n / 10)) (48 + n % 10) [] 0 i z) (omega arith, omega arith))))

-- and the first is no zero, but for the number 0
pub no_leading_zero : (n : ℕ) → 0 < n → 48 < get_or (digits n) 0 0
no_leading_zero =
    by_digits (λ n. 0 < n → 48 < get_or (digits n) 0 0)
    (λ n h k. rw (digits_one n h) (omega arith))
    (λ n h e k. rw (digits_more n h, get_or-append (digits (n / 10)) ((48 + n % 10) ∷ []) 0 0 (some_digits (n / 10))) (e (omega arith)))
