-- Laws of a list with a part of it written anew: how long it is, its parts, its elements, and what it is when it is cut in parts of one width.
-- They hold of any elements. Assumes nothing.
use Prim.Native.Nat.{ℕ, zero, suc, ◌+◌, ◌-◌, ◌*◌, ◌≤◌, ◌<◌}
use mathlib.Core.Path.{◌≡◌, refl, sym, ap, ◌∙◌}
use mathlib.Core.List.{List, [], ◌∷◌, ◌++◌, map, map-append, append_assoc}
use native.Mathlib.Nat.{mul-suc, mul-zero, mul-le-mul_left, le_of_lt, add_comm, not-suc-le-zero, le_of_suc-le-suc}
use native.Mathlib.Omega.{arith}
use lib.ListN.{length, get_or, take, drop, set, length-append, length-drop, get_or-append}
use lib.Seq.{take_at, drop_at, take-append-le, drop-append-le, take-append-add, drop-append-add, take-take, drop-drop, get_or-take, get_or-drop, length-take-le, drop-cons, drop-set-add, drop-set-lt, take-set-lt, take-set-le, sets, sets-eq, paste}
use Rattle.basics.specs.Parts.{part, cut}
use Rattle.basics.proofs.Shift.{drop-take}

-- m with ys from place a on: so a part that was lent comes back
abbrev pub patched : {A : Type 0} → List A → ℕ → List A → List A
patched m a ys = take a m ++ (ys ++ drop (length ys) (drop a m))

-- the form in which a part lent as m[a..e] comes back
pub back_patched : {A : Type 0} (m : List A) (a k : ℕ) (ys : List A) → length ys ≡ k → take a m ++ (ys ++ drop k (drop a m)) ≡ patched m a ys
back_patched m a k ys h = rw (sym h)

-- a run of stores
pub sets_patched : {A : Type 0} (m : List A) (k : ℕ) (vs : List A) → k + length vs ≤ length m → sets m k vs ≡ patched m k vs
sets_patched m k vs h = sets-eq vs m k h ∙ rw (append_assoc, drop-drop)

pub set_patched : {A : Type 0} (m : List A) (k : ℕ) (x : A) → k < length m → set m k x ≡ patched m k (x ∷ [])
set_patched m k x h = sets_patched m k (x ∷ []) (omega arith)

-- behind a front of a known length
module _ {A : Type 0} (p q : List A) (n k : ℕ) (h : length p ≡ n) where
  drop_past : drop (n + k) (p ++ q) ≡ drop k q
  drop_past = rw (sym h) (drop-append-add p q k)

  take_past : take (n + k) (p ++ q) ≡ p ++ take k q
  take_past = rw (sym h) (take-append-add p q k)

module _ {A : Type 0} (m : List A) (a : ℕ) (ys : List A) where
  pub length_patched : a + length ys ≤ length m → length (patched m a ys) ≡ length m
  length_patched h =
      let front : length (take a m) ≡ a = length-take-le a m (omega arith) in
      simp (length-append, length-drop) (omega arith)

  -- ---- its front, and what follows a place

  pub take-before : (n : ℕ) → a ≤ length m → n ≤ a → take n (patched m a ys) ≡ take n m
  take-before n h b =
      let front : length (take a m) ≡ a = length-take-le a m h in
      take-append-le n (take a m) (ys ++ drop (length ys) (drop a m)) (omega arith) ∙ take-take n a m b

  pub drop-before : (n : ℕ) → a ≤ length m → n ≤ a → drop n (patched m a ys) ≡ patched (drop n m) (a - n) ys
  drop-before n h b =
      let front : length (take a m) ≡ a = length-take-le a m h in
      let e : n + (a - n) ≡ a = omega arith in
      drop-append-le n (take a m) (ys ++ drop (length ys) (drop a m)) (omega arith)
      ∙ rw (drop-take n a m b, drop-drop (a - n) n m, e)

  module _ (n : ℕ) (h : a ≤ length m) (b : a + length ys ≤ n) where
    front : length (take a m) ≡ a
    front = length-take-le a m h

    split : n ≡ a + (length ys + (n - (a + length ys)))
    split = omega arith

    pub drop-after : drop n (patched m a ys) ≡ drop n m
    drop-after =
        let k : ℕ = n - (a + length ys) in
        let rest = drop (length ys) (drop a m) in
        ap (λ (j : ℕ). drop j (patched m a ys)) split
        ∙ drop_past (take a m) (ys ++ rest) a (length ys + k) front
        ∙ drop_past ys rest (length ys) k refl
        ∙ drop-drop k (length ys) (drop a m)
        ∙ drop-drop (length ys + k) a m
        ∙ ap (λ (j : ℕ). drop j m) (sym split)

    pub take_after : take n (patched m a ys) ≡ patched (take n m) a ys
    take_after =
        let k : ℕ = n - (a + length ys) in
        let rest = drop (length ys) (drop a m) in
        let e : drop (length ys) (drop a (take n m)) ≡ take k rest = rw (drop-drop (length ys) a (take n m), drop-take (a + length ys) n m b, drop-drop (length ys) a m) in
        ap (λ (j : ℕ). take j (patched m a ys)) split
        ∙ take_past (take a m) (ys ++ rest) a (length ys + k) front
        ∙ ap (λ r. take a m ++ r) (take_past ys rest (length ys) k refl)
        ∙ rw (take-take a n m (omega arith), e)

-- ---- its parts and its elements

module _ {A : Type 0} (m : List A) (a : ℕ) (ys : List A) (h : a ≤ length m) where
  pub part_same : (n : ℕ) → length ys ≡ n → part (patched m a ys) a n ≡ ys
  part_same n e =
      ap (λ r. take n r) (drop_at (take a m) (ys ++ drop (length ys) (drop a m)) a (length-take-le a m h))
      ∙ take_at ys (drop (length ys) (drop a m)) n e

  module _ (at n : ℕ) where
    pub part-before : at + n ≤ a → part (patched m a ys) at n ≡ part m at n
    part-before b =
        let l : a - at ≤ length (drop at m) = rw length-drop (omega arith) in
        ap (λ r. take n r) (drop-before m a ys at h (omega arith)) ∙ take-before (drop at m) (a - at) ys n l (omega arith)

    pub part-after : a + length ys ≤ at → part (patched m a ys) at n ≡ part m at n
    part-after b = rw (drop-after m a ys at h b)

  pub get_or-before : (k : ℕ) (d : A) → k < a → get_or (patched m a ys) k d ≡ get_or m k d
  get_or-before k d b =
      let front : length (take a m) ≡ a = length-take-le a m h in
      get_or-append (take a m) (ys ++ drop (length ys) (drop a m)) d k (omega arith) ∙ get_or-take a m k d b

  pub get_or_after : (k : ℕ) (d : A) → a + length ys ≤ k → get_or (patched m a ys) k d ≡ get_or m k d
  get_or_after k d b =
      let z : k + 0 ≡ k = omega arith in
      rw z at (sym (get_or-drop k (patched m a ys) 0 d) ∙ ap (λ r. get_or r 0 d) (drop-after m a ys k h b) ∙ get_or-drop k m 0 d)

-- ---- a store in a part

pub part-set : {A : Type 0} (m : List A) (at n i : ℕ) (x : A) → i < n → part (set m (at + i) x) at n ≡ set (part m at n) i x
part-set m at n i x h = ap (λ r. take n r) (drop-set-add at m i x) ∙ take-set-lt n (drop at m) i x h

-- a store elsewhere

pub part-set-before : {A : Type 0} (m : List A) (at n k : ℕ) (x : A) → at + n ≤ k → part (set m k x) at n ≡ part m at n
part-set-before m at n k x h =
    let e : k ≡ at + (k - at) = omega arith in
    ap (λ (j : ℕ). part (set m j x) at n) e
    ∙ ap (λ r. take n r) (drop-set-add at m (k - at) x)
    ∙ take-set-le n (drop at m) (k - at) x (omega arith)

pub part-set-after : {A : Type 0} (m : List A) (at n k : ℕ) (x : A) → k < at → part (set m k x) at n ≡ part m at n
part-set-after m at n k x h = rw (drop-set-lt at m k x h)

-- ---- a part read

pub length_part : {A : Type 0} (m : List A) (at n : ℕ) → at + n ≤ length m → length (part m at n) ≡ n
length_part m at n h = length-take-le n (drop at m) (rw length-drop (omega arith))

pub part_three : {A : Type 0} (m : List A) (k : ℕ) (d : A) → k + 3 ≤ length m
    → part m k 3 ≡ get_or m k d ∷ get_or m (k + 1) d ∷ get_or m (k + 2) d ∷ []
part_three m k d h =
    let e : k + 1 ≡ suc k = omega arith in
    let f : k + 2 ≡ suc (suc k) = omega arith in
    rw (e, f, drop-cons m k d (omega arith), drop-cons m (suc k) d (omega arith), drop-cons m (suc (suc k)) d (omega arith))

pub part-get_or : {A : Type 0} (m : List A) (at n i : ℕ) (d : A) → i < n → get_or (part m at n) i d ≡ get_or m (at + i) d
part-get_or m at n i d h = get_or-take n (drop at m) i d h ∙ get_or-drop at m i d

-- ---- cut in parts of one width

pub cut_at : {A : Type 0} (w count i : ℕ) (m : List A) (d : List A) → i < count → get_or (cut w count m) i d ≡ part m (w * i) w
unfolding cut
cut_at w zero i m d h = absurd (not-suc-le-zero h)
cut_at w (suc n) zero m d h = rw mul-zero
cut_at w (suc n) (suc i) m d h = cut_at w n i (drop w m) d (le_of_suc-le-suc h) ∙ rw (drop-drop, mul-suc, add_comm w (w * i))

module _ {A : Type 0} (w : ℕ) (ys : List A) where
  pub cut-after : (count a : ℕ) (m : List A) → w * count ≤ a → a ≤ length m → cut w count (patched m a ys) ≡ cut w count m
  unfolding cut
  cut-after zero a m b h = refl
  cut-after (suc n) a m b h =
      let c : w * n + w ≤ a = rw mul-suc at b in
      let l : a - w ≤ length (drop w m) = rw length-drop (omega arith) in
      rw (take-before m a ys w h (omega arith), drop-before m a ys w h (omega arith), cut-after n (a - w) (drop w m) (omega arith) l)

  pub cut_patched : (count i : ℕ) (m : List A) → i < count → length ys ≡ w → w * count ≤ length m
      → cut w count (patched m (w * i) ys) ≡ set (cut w count m) i ys
  unfolding cut
  cut_patched zero i m h e l = absurd (not-suc-le-zero h)
  cut_patched (suc n) zero m h e l =
      let z : w * zero ≡ 0 = mul-zero w in
      rw (z, drop-after m 0 ys w (omega arith) (omega arith), take_at ys (drop (length ys) m) w e)
  cut_patched (suc n) (suc i) m h e l =
      let c : w * n + w ≤ length m = rw mul-suc at l in
      let k : w * suc i ≡ w * i + w = mul-suc w i in
      let back : w * i + w - w ≡ w * i = omega arith in
      let o : w * i ≤ w * n = mul-le-mul_left w (le_of_suc-le-suc (le_of_lt h)) in
      let r : w * n ≤ length (drop w m) = rw length-drop (omega arith) in
      rw (
        k,
        take-before m (w * i + w) ys w (omega arith) (omega arith),
        drop-before m (w * i + w) ys w (omega arith) (omega arith),
        back,
        cut_patched n i (drop w m) (le_of_suc-le-suc h) e r,
      )

-- ---- what is read from each element

module _ {A B : Type 0} (f : A → B) where
  pub map-set : (l : List A) (i : ℕ) (x : A) → map f (set l i x) ≡ set (map f l) i (f x)
  map-set [] i x = refl
  map-set (y ∷ ys) zero x = refl
  map-set (y ∷ ys) (suc i) x = ap (λ r. f y ∷ r) (map-set ys i x)

  pub map-take : (n : ℕ) (l : List A) → map f (take n l) ≡ take n (map f l)
  map-take zero l = refl
  map-take (suc n) [] = refl
  map-take (suc n) (y ∷ ys) = ap (λ r. f y ∷ r) (map-take n ys)

  pub map-drop : (n : ℕ) (l : List A) → map f (drop n l) ≡ drop n (map f l)
  map-drop zero l = refl
  map-drop (suc n) [] = refl
  map-drop (suc n) (y ∷ ys) = map-drop n ys

  pub map_paste : (xs : List A) (a : ℕ) (ys : List A) (k : ℕ) → map f (paste xs a ys k) ≡ paste (map f xs) a (map f ys) k
  map_paste xs a ys k = rw (map-append, map-append, map-take a xs, map-take k ys, map-drop (a + k) xs)

  -- below the end it does not matter what would stand past it
  pub get_or_mapped : (l : List A) (i : ℕ) (d : A) (e : B) → i < length l → get_or (map f l) i e ≡ f (get_or l i d)
  get_or_mapped [] i d e h = absurd (not-suc-le-zero h)
  get_or_mapped (y ∷ ys) zero d e h = refl
  get_or_mapped (y ∷ ys) (suc i) d e h = get_or_mapped ys i d e (le_of_suc-le-suc h)
