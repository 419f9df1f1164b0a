-- Laws of a list in parts of one width: cut, joined, read and filled from the front.
-- Assumes nothing.
use Prim.Native.Nat.{ℕ, zero, suc, ◌+◌, ◌-◌, ◌*◌, ◌≤◌, ◌<◌}
use mathlib.Core.Path.{◌≡◌, refl, sym, ap, ◌∙◌}
use mathlib.Core.Bool.{Bool, true}
use mathlib.Core.List.{List, [], ◌∷◌, ◌++◌, map, map-append, append_assoc, append-nil}
use native.Mathlib.Nat.{mul-suc, mul-zero, add_comm}
use native.Mathlib.Numerals.{add-one}
use native.Mathlib.Omega.{arith}
use lib.ListN.{length, get_or, take, drop, set, length-append, length-drop, length-map, drop_of_length-le, take-append-drop}
use lib.Seq.{take_at, drop_at, drop-drop, drop-cons, set_at, sets, sets-eq, take-add, append_snoc, get_or-drop, length-take-le, take_all}
use Rattle.basics.proofs.Each.{passes}
use Rattle.basics.specs.Each.{first_not}
use Rattle.basics.specs.Parts.{part, cut, joined}

-- ---- parts in a row

pub joined-more : {A : Type 0} (xs : List (List A)) (x : List A) → joined (xs ++ (x ∷ [])) ≡ joined xs ++ x
unfolding joined
joined-more [] x = append-nil x
joined-more (y ∷ ys) x = rw (joined-more ys x) (sym (append_assoc y (joined ys) x))

-- a row of parts that are all of one width
pub length-row : {A B : Type 0} (g : B → List A) (w : ℕ) → ((t : B) → length (g t) ≡ w)
    → (ts : List B) → length (joined (map g ts)) ≡ w * length ts
unfolding joined
length-row g w h [] = sym (mul-zero w)
length-row g w h (t ∷ ts) =
    length-append (g t) (joined (map g ts)) ∙ rw (h t, length-row g w h ts, mul-suc) (add_comm w (w * length ts))

-- ---- cut and joined

pub length_cut : {A : Type 0} (w n : ℕ) (l : List A) → length (cut w n l) ≡ n
unfolding cut
length_cut w zero l = refl
length_cut w (suc n) l = ap suc (length_cut w n (drop w l))

-- one part more
pub cut-more : {A : Type 0} (w n : ℕ) (l : List A) → cut w (n + 1) l ≡ cut w n l ++ (part l (w * n) w ∷ [])
unfolding cut
cut-more w zero l = rw mul-zero
cut-more w (suc n) l =
    let e : suc n + 1 ≡ suc (n + 1) = omega arith in
    rw (e, cut-more w n (drop w l), drop-drop, mul-suc, add_comm w (w * n))

-- what is read from each part
module _ {A B : Type 0} (f : List A → B) (w n : ℕ) (l : List A) where
  pub length-read : length (map f (cut w n l)) ≡ n
  length-read = rw (length-map, length_cut)

  pub read_more : map f (cut w (n + 1) l) ≡ map f (cut w n l) ++ (f (part l (w * n) w) ∷ [])
  read_more = rw (cut-more, map-append)

-- the parts of a list in a row are the list, as far as it was cut
pub joined-cut : {A : Type 0} (w n : ℕ) (l : List A) → joined (cut w n l) ≡ take (w * n) l
unfolding cut joined
joined-cut w zero l = rw mul-zero
joined-cut w (suc n) l =
    rw (joined-cut w n (drop w l), mul-suc, add_comm (w * n) w) (sym (take-add w (w * n) l))

-- parts of one width in a row, with whatever follows, are cut into these parts
pub cut-row : {A B : Type 0} (g : B → List A) (w : ℕ) → ((t : B) → length (g t) ≡ w)
    → (ts : List B) (rest : List A) → cut w (length ts) (joined (map g ts) ++ rest) ≡ map g ts
unfolding cut joined
cut-row g w h [] rest = refl
cut-row g w h (t ∷ ts) rest =
    rw (
      append_assoc (g t) (joined (map g ts)) rest,
      take_at (g t) (joined (map g ts) ++ rest) w (h t),
      drop_at (g t) (joined (map g ts) ++ rest) w (h t),
      cut-row g w h ts rest,
    )

-- ---- a list that is filled from the front

-- n elements are done, and behind them stand the old ones
abbrev pub filled : {A : Type 0} → ℕ → List A → List A → List A
filled n done old = done ++ drop n old

module _ {A : Type 0} (n : ℕ) (done old : List A) (is : length done ≡ n) where
  pub length-filled : n ≤ length old → length (filled n done old) ≡ length old
  length-filled h = simp (length-append, length-drop) (omega arith)

  -- the w elements behind what is done are lent, and come back as x
  pub filled_more : (x : List A) (w : ℕ)
      → take n (filled n done old) ++ (x ++ drop w (drop n (filled n done old))) ≡ filled (n + w) (done ++ x) old
  filled_more x w =
      rw (take_at done (drop n old) n is, drop_at done (drop n old) n is, drop-drop) (sym (append_assoc done x (drop (n + w) old)))

  -- the element behind what is done is stored
  pub filled-set : (x d : A) → n < length old → set (filled n done old) n x ≡ filled (n + 1) (done ++ (x ∷ [])) old
  filled-set x d h =
      rw (drop-cons old n d h, set_at done (get_or old n d) (drop (suc n) old) x n is, add-one) (sym (append_snoc done x (drop (suc n) old)))

  -- all is done
  pub filled_whole : length old ≡ n → filled n done old ≡ done
  filled_whole h = rw (drop_of_length-le old {i = n} (omega arith)) (append-nil done)

-- A turn of a loop that fills a list part by part: part i is lent, and comes back as x.
module _ {A : Type 0} (b i : ℕ) (done more old l x : List A) where
  pub part_filled : length done ≡ b * i → l ≡ filled (b * i) done old → more ≡ done ++ x → length x ≡ b → b * (i + 1) ≤ length old
      → (length (take (b * i) l ++ (x ++ drop (b * i + b - b * i) (drop (b * i) l))) ≡ length old)
      × (take (b * i) l ++ (x ++ drop (b * i + b - b * i) (drop (b * i) l)) ≡ filled (b * (i + 1)) more old)
  part_filled is at m wide room =
      let w : b * i + b - b * i ≡ b = omega arith in
      let next : b * i + b ≡ b * (i + 1) = rw (add-one i, mul-suc) in
      let all : length (done ++ x) ≡ b * (i + 1) = length-append done x ∙ rw (is, wide) next in
      let e : take (b * i) l ++ (x ++ drop (b * i + b - b * i) (drop (b * i) l)) ≡ filled (b * (i + 1)) (done ++ x) old
      = rw (w, at, ← next) (filled_more (b * i) done old is x b) in
      (rw e (length-filled (b * (i + 1)) (done ++ x) old all room), rw (e, m))

-- a run of stores over a whole list leaves what was stored
pub stored : {A : Type 0} (l vs : List A) → length l ≡ length vs → sets l 0 vs ≡ vs
stored l vs h =
    sets-eq vs l 0 (omega arith)
    ∙ rw (drop_of_length-le l {i = 0 + length vs} (omega arith)) (append-nil vs)

-- ---- a list is its elements in their order

unfoldable pub listed : {A : Type 0} → ℕ → (ℕ → A) → List A
listed zero f = []
listed (suc n) f = f 0 ∷ listed n (λ k. f (suc k))

listed_whole : {A : Type 0} (d : A) (l : List A) → listed (length l) (λ k. get_or l k d) ≡ l
unfolding listed
listed_whole d [] = refl
listed_whole d (x ∷ xs) = ap (λ r. x ∷ r) (listed_whole d xs)

pub listed_all : {A : Type 0} (d : A) (n : ℕ) (l : List A) → length l ≡ n → listed n (λ k. get_or l k d) ≡ l
listed_all d n l h = rw (← h) (listed_whole d l)

-- ---- there and back

pub map_back : {A B : Type 0} (f : A → B) (g : B → A) → ((t : B) → f (g t) ≡ t) → (ts : List B) → map f (map g ts) ≡ ts
map_back f g h [] = refl
map_back f g h (t ∷ ts) = rw (h t, map_back f g h ts)

-- numbers that fit a byte
abbrev pub Bytes : List ℕ → Type 0
Bytes l = (k : ℕ) → get_or l k 0 < 256

pub bytes_take : (n : ℕ) (l : List ℕ) → Bytes l → Bytes (take n l)
bytes_take zero l h k = omega arith
bytes_take (suc n) [] h k = h k
bytes_take (suc n) (x ∷ xs) h zero = h zero
bytes_take (suc n) (x ∷ xs) h (suc k) = bytes_take n xs (λ j. h (suc j)) k

pub bytes_drop : (n : ℕ) (l : List ℕ) → Bytes l → Bytes (drop n l)
bytes_drop n l h k = rw get_or-drop (h (n + k))

-- the parts of a list that all pass a test, each read and written again; P is what is known of the list and so of its parts
module _ {A B : Type 0} (P : List A → Type 0) (on-take : (n : ℕ) (l : List A) → P l → P (take n l)) (on-drop : (n : ℕ) (l : List A) → P l → P (drop n l))
    (f : List A → B) (g : B → List A) (test : List A → Bool) (w : ℕ)
    (back : (p : List A) → length p ≡ w → P p → test p ≡ true → g (f p) ≡ p) where
  pub cut-back : (n : ℕ) (l : List A) → w * n ≤ length l → P l → first_not test (cut w n l) ≡ n → map g (map f (cut w n l)) ≡ cut w n l
  unfolding cut first_not
  cut-back zero l room b h = refl
  cut-back (suc n) l room b h =
      let wide : w * n + w ≤ length l = rw mul-suc at room in
      let first = passes (test (take w l)) (first_not test (cut w n (drop w l))) n h in
      let rest : w * n ≤ length (drop w l) = rw length-drop (omega arith) in
      let fits : w ≤ length l = omega arith in
      rw (
        back (take w l) (length-take-le w l fits) (on-take w l b) first.0,
        cut-back n (drop w l) rest (on-drop w l b) first.1,
      )

-- ---- three parts in a row

module _ {A : Type 0} (x y z : List A) (m n k : ℕ) (hx : length x ≡ m) (hy : length y ≡ n) (hz : length z ≡ k) where
  pub middle_part : part (x ++ (y ++ z)) m n ≡ y
  middle_part = rw (drop_at x (y ++ z) m hx) (take_at y z n hy)

  pub last-part : part (x ++ (y ++ z)) (length (x ++ (y ++ z)) - k) k ≡ z
  last-part =
      let at : length (x ++ (y ++ z)) - k ≡ length (x ++ y) = simp length-append (omega arith) in
      rw (at, ← append_assoc x y z, drop_at (x ++ y) z (length (x ++ y)) refl) (take_all k z (omega arith))

-- a list is its three parts
pub three_parts : {A : Type 0} (l : List A) (m n k : ℕ) → length l ≡ m + (n + k) → take m l ++ (part l m n ++ part l (length l - k) k) ≡ l
three_parts l m n k h =
    let at : length l - k ≡ m + n = omega arith in
    let rest : length (drop (m + n) l) ≤ k = rw length-drop (omega arith) in
    rw (at, take_all k (drop (m + n) l) rest, ← drop-drop n m l, take-append-drop n (drop m l)) (take-append-drop m l)
