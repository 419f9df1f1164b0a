-- The law of wrapped counters, once over the modulus m. A true count is any number; what is stored of it is its remainder by m.
--
-- The wrapped difference of two stored counts is the true difference where that is less than m (`minus_ahead`), and m less the true difference
-- the other way round where the first lies behind (`minus-behind`). Every test on counters follows from these two. Assumes nothing.
use Rattle.std.proofs.Common.{◌≡◌, ℕ, ◌+◌, ◌-◌, ◌*◌, ◌/◌, ◌%◌, ◌<◌, ◌≤◌, Bool, true, false, eqb, leb, sym, refl, ap, ◌∙◌, le_refl, mod-lt, mod-eq_of_lt, div-add-mod', arith, eq-eqb, ne_eqb, eqb-true, le-leb, leb-false, leb-true}
use native.Mathlib.Nat.{mod-add-mod, add-mod-mod, mod-mod, add-mul-mod_self_right}
use borrow.Author.Tests.{lt-leb, eqb-false}
use Rattle.basics.proofs.Tests.{leb_same}
use Rattle.counters.specs.Wrapped.{plus, minus, within, gate}

module _ (m : ℕ) (positive : 0 < m) where
  -- ---- sums and differences

  -- what is stored of a sum
  pub plus-stored : (a b : ℕ) → plus m (a % m) b ≡ (a + b) % m
  unfolding plus
  plus-stored a b = mod-add-mod a m b

  -- the stored forms have the difference of the counts themselves
  pub minus-stored : (a b : ℕ) → minus m (a % m) (b % m) ≡ minus m a b
  unfolding minus
  minus-stored a b = rw (mod-mod, mod-add-mod)

  -- laps more or less are the same place
  lap : (x y k : ℕ) → x ≡ y + k * m → y < m → x % m ≡ y
  lap x y k e lt = rw (e, add-mul-mod_self_right, mod-eq_of_lt lt)

  -- a lies ahead of b, by less than a lap
  pub minus_ahead : (a b : ℕ) → b ≤ a → a - b < m → minus m (a % m) (b % m) ≡ a - b
  unfolding minus
  minus_ahead a b h lt =
      let r : b % m < m = mod-lt b positive in
      let s : b / m * m + b % m ≡ b = div-add-mod' b m in
      minus-stored a b ∙ lap (a + (m - b % m)) (a - b) (b / m + 1) (omega arith) lt

  -- a lies behind b, by less than a lap
  pub minus-behind : (a b : ℕ) → a < b → b - a < m → minus m (a % m) (b % m) ≡ m - (b - a)
  unfolding minus
  minus-behind a b h lt =
      let r : b % m < m = mod-lt b positive in
      let s : b / m * m + b % m ≡ b = div-add-mod' b m in
      minus-stored a b ∙ lap (a + (m - b % m)) (m - (b - a)) (b / m) (omega arith) (omega arith)

  -- a wrapped difference is below the modulus
  pub minus_below : (a b : ℕ) → minus m a b < m
  unfolding minus
  minus_below a b = mod-lt (a + (m - b % m)) positive

  -- added again, it gives the number back
  pub minus-back : (a b : ℕ) → a < m → (b + minus m a b) % m ≡ a
  unfolding minus
  minus-back a b lt =
      let r : b % m < m = mod-lt b positive in
      let s : b / m * m + b % m ≡ b = div-add-mod' b m in
      rw add-mod-mod (lap (b + (a + (m - b % m))) a (b / m + 1) (omega arith) lt)

  -- ---- tests

  -- a window: a is at most w ahead of b
  pub within_window : (w a b : ℕ) → b ≤ a → a - b < m → within m w (a % m) (b % m) ≡ leb a (b + w)
  unfolding within
  within_window w a b h lt = rw (minus_ahead a b h lt) (leb_same (a - b) w a (b + w) (omega arith) (omega arith))

  -- a half range: up to `half` ahead counts as ahead, less than the rest of the lap behind counts as behind
  pub within_half : (half a b : ℕ) → half < m → a - b ≤ half → b - a < m - half → within m half (a % m) (b % m) ≡ leb b a
  unfolding within
  within_half half a b hm up down = go (leb b a) refl
    where
      go : (t : Bool) → leb b a ≡ t → leb (minus m (a % m) (b % m)) half ≡ t
      go true e =
          let h : b ≤ a = leb-true b a e in
          rw (minus_ahead a b h (omega arith)) (le-leb (a - b) half up)
      go false e =
          let h : a < b = leb-false b a e in
          rw (minus-behind a b h (omega arith)) (lt-leb (m - (b - a)) half (omega arith))

  -- the gate of credits: there is room for the need below the limit
  pub gate-true : (half limit consumed need : ℕ) → half < m → consumed ≤ limit → limit - consumed ≤ half → need < m - half
      → gate m half (limit % m) (consumed % m) need ≡ leb (consumed + need) limit
  unfolding gate
  gate-true half l c n hm h k small =
      let d : minus m (l % m) (c % m) ≡ (l - c) % m = minus_ahead l c h (omega arith) ∙ sym (mod-eq_of_lt (omega arith)) in
      let e : n % m ≡ n = mod-eq_of_lt (omega arith) in
      let g : within m half ((l - c) % m) (n % m) ≡ leb n (l - c) = within_half half (l - c) n hm (omega arith) (omega arith) in
      rw d (rw e at g) ∙ leb_same n (l - c) (c + n) l (omega arith) (omega arith)

  -- a number that lies k after b is within any window of k or more
  pub within_reaches : (w k b : ℕ) → k ≤ w → k < m → within m w ((b + k) % m) (b % m) ≡ true
  within_reaches w k b h lt = within_window w (b + k) b (omega arith) (omega arith) ∙ le-leb (b + k) (b + w) (omega arith)

  -- and no other number is within it
  pub within_only : (w a b : ℕ) → a < m → within m w a b ≡ true → (minus m a b ≤ w) × ((b + minus m a b) % m ≡ a)
  unfolding within
  within_only w a b lt e = (leb-true (minus m a b) w e, minus-back a b lt)

  -- ---- equality

  -- equal stored forms less than a lap apart are equal counts
  pub stored_equal : (a b : ℕ) → b ≤ a → a - b < m → a % m ≡ b % m → a ≡ b
  stored_equal a b h lt e =
      let x : minus m (a % m) (b % m) ≡ a - b = minus_ahead a b h lt in
      let y : minus m (b % m) (b % m) ≡ b - b = minus_ahead b b (le_refl b) (omega arith) in
      let z : a - b ≡ b - b = cc in
      omega arith

  pub stored_same : (a b : ℕ) → b ≤ a → a - b < m → eqb (a % m) (b % m) ≡ eqb a b
  stored_same a b h lt = go (eqb a b) refl
    where
      go : (t : Bool) → eqb a b ≡ t → eqb (a % m) (b % m) ≡ t
      go true e = eq-eqb (a % m) (b % m) (ap (λ (n : ℕ). n % m) (eqb-true a b e))
      go false e = ne_eqb (a % m) (b % m) (λ q. eqb-false a b e (stored_equal a b h lt q))
