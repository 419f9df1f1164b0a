-- The words of a line: its oldest frame read, a frame put at a place, and the later frames moved down by one.
-- Assumes that it has all its words.
use Prim.Native.Nat.{ℕ, zero, suc, ◌+◌, ◌-◌, ◌*◌, ◌≤◌, ◌<◌}
use mathlib.Core.Path.{◌≡◌, refl, sym, ap, ◌∙◌}
use mathlib.Core.List.{List, [], ◌∷◌, ◌++◌}
use native.Mathlib.Nat.{mul-suc, mul-zero, mul-le-mul_left, add_comm}
use native.Mathlib.Numerals.{add-one}
use native.Mathlib.Omega.{arith}
use lib.ListN.{length, get_or, take, drop, set, length-set, length-drop}
use lib.Seq.{get_or-set_same, take-append-le, drop-append-le, take-take, take_at, drop_at, drop-drop, length-take-le, length-paste, paste}
use Rattle.basics.specs.Parts.{cut}
use Rattle.basics.proofs.Parts.{length_cut}
use Rattle.basics.proofs.Shift.{drop-take}
use Rattle.line.specs.Line.{line, slot, blank}
use Rattle.words.specs.Words.{frame_in}
use Rattle.words.specs.Memory.{line_places, line_words, slot_in, line_in}
use Rattle.words.proofs.Patched.{patched, length_patched, set_patched, sets_patched, part-get_or, map-drop, map_paste}
use Rattle.words.proofs.Lists.{read_at, read_patched, read-after}

-- ---- a list cut in parts whose later parts are moved down by one

module _ {A : Type 0} (w : ℕ) where
  cut-add : (k j : ℕ) (l : List A) → cut w (k + j) l ≡ cut w k l ++ cut w j (drop (w * k) l)
  unfolding cut
  cut-add zero j l = let z : zero + j ≡ j = omega arith in rw (z, mul-zero)
  cut-add (suc k) j l =
      let e : suc k + j ≡ suc (k + j) = omega arith in
      rw (e, cut-add k j (drop w l), drop-drop, mul-suc, add_comm w (w * k))

  -- what follows the parts does not matter
  cut-front : (k : ℕ) (x y : List A) → w * k ≤ length x → cut w k (take (w * k) x ++ y) ≡ cut w k x
  unfolding cut
  cut-front zero x y h = refl
  cut-front (suc k) x y h =
      let e : w * suc k ≡ w * k + w = mul-suc w k in
      let back : w * k + w - w ≡ w * k = omega arith in
      let l : w * k ≤ length (drop w x) = rw length-drop (omega arith) in
      let f : length (take (w * k + w) x) ≡ w * k + w = length-take-le (w * k + w) x (omega arith) in
      rw (
        e,
        take-append-le w (take (w * k + w) x) y (omega arith),
        take-take w (w * k + w) x (omega arith),
        drop-append-le w (take (w * k + w) x) y (omega arith),
        drop-take w (w * k + w) x (omega arith),
        back,
        cut-front k (drop w x) y l,
      )

  take-cut : (k count : ℕ) (l : List A) → k ≤ count → take k (cut w count l) ≡ cut w k l
  take-cut k count l h =
      let e : count ≡ k + (count - k) = omega arith in
      ap (λ (n : ℕ). take k (cut w n l)) e
      ∙ rw (cut-add k (count - k) l) (take_at (cut w k l) (cut w (count - k) (drop (w * k) l)) k (length_cut w k l))

  drop-cut : (k count : ℕ) (l : List A) → k ≤ count → drop k (cut w count l) ≡ cut w (count - k) (drop (w * k) l)
  drop-cut k count l h =
      let e : count ≡ k + (count - k) = omega arith in
      ap (λ (n : ℕ). drop k (cut w n l)) e
      ∙ rw (cut-add k (count - k) l) (drop_at (cut w k l) (cut w (count - k) (drop (w * k) l)) k (length_cut w k l))

  cut_moved : (k count : ℕ) (l : List A) → k + 1 ≤ count → w * count ≤ length l
      → cut w count (paste l 0 (drop w l) (w * k)) ≡ paste (cut w count l) 0 (drop 1 (cut w count l)) k
  cut_moved k count l h long =
      let all : k + (count - k) ≡ count = omega arith in
      let next : w * (k + 1) ≡ w * k + w = ap (λ (n : ℕ). w * n) (add-one k) ∙ mul-suc w k in
      let some : w * (k + 1) ≤ w * count = mul-le-mul_left w h in
      let r : w * k ≤ length (drop w l) = rw length-drop (omega arith) in
      let z : 0 + w * k ≡ w * k = omega arith in
      let y : 0 + k ≡ k = omega arith in
      let o : w * 1 ≡ w = omega arith in
      let x : List A = take (w * k) (drop w l) ++ drop (w * k) l in
      let front : cut w count x ≡ cut w k (drop w l) ++ cut w (count - k) (drop (w * k) l)
      = ap (λ (n : ℕ). cut w n x) (sym all)
      ∙ cut-add k (count - k) x
      ∙ rw (cut-front k (drop w l) (drop (w * k) l) r, drop_at (take (w * k) (drop w l)) (drop (w * k) l) (w * k) (length-take-le (w * k) (drop w l) r)) in
      rw (z, y, drop-cut 1 count l (omega arith), o, take-cut k (count - 1) (drop w l) (omega arith), drop-cut k count l (omega arith)) front

module _ (l : List ℕ) (long : length l ≡ line_words) where
  pub len_is : (line_in l).len ≡ get_or l (2 * line_places) 0
  unfolding line_in
  len_is = refl

  -- its oldest frame
  pub front-is : get_or (line_in l).slots 0 blank ≡ slot (frame_in (get_or l 0 0) (get_or l 1 0))
  unfolding line_in
  front-is = read_at slot_in 2 line_places l 0 blank (omega arith) ∙ rw (part-get_or l 0 2 0 0 (omega arith), part-get_or l 0 2 1 0 (omega arith))

  -- a frame at place n, and how many there are
  pub put-frame : (n a b : ℕ) → n < line_places
      → line_in (set (set (set l (2 * n) a) (2 * n + 1) b) (2 * line_places) (n + 1))
      ≡ line (set (line_in l).slots n (slot (frame_in a b))) (n + 1)
  unfolding line_in
  put-frame n a b h =
      let s : suc (2 * n) ≡ 2 * n + 1 = omega arith in
      let e : set (set l (2 * n) a) (2 * n + 1) b ≡ patched l (2 * n) (a ∷ b ∷ []) = rw s at (sets_patched l (2 * n) (a ∷ b ∷ []) (omega arith)) in
      let q : length (patched l (2 * n) (a ∷ b ∷ [])) ≡ length l = length_patched l (2 * n) (a ∷ b ∷ []) (omega arith) in
      let p = patched l (2 * n) (a ∷ b ∷ []) in
      rw (
        e,
        get_or-set_same p (2 * line_places) (n + 1) 0 (omega arith),
        set_patched p (2 * line_places) (n + 1) (omega arith),
        read-after slot_in 2 line_places p (2 * line_places) ((n + 1) ∷ []) (omega arith) (omega arith),
        read_patched slot_in 2 line_places l n (a ∷ b ∷ []) h refl (omega arith),
      )

  -- the n frames but the oldest moved down by one place
  pub leave : (n : ℕ) → 1 ≤ n → n ≤ line_places
      → line_in (set (paste l 0 (drop 2 l) (2 * n - 2)) (2 * line_places) (n - 1))
      ≡ line (paste (line_in l).slots 0 (drop 1 (line_in l).slots) (n - 1)) (n - 1)
  unfolding line_in
  leave n h b =
      let e : 2 * n - 2 ≡ 2 * (n - 1) = omega arith in
      let d : 2 * (n - 1) ≤ length (drop 2 l) = rw length-drop (omega arith) in
      let p = paste l 0 (drop 2 l) (2 * (n - 1)) in
      let q : length (paste l 0 (drop 2 l) (2 * (n - 1))) ≡ length l = length-paste l 0 (drop 2 l) (2 * (n - 1)) (omega arith) d in
      rw (
        e,
        get_or-set_same p (2 * line_places) (n - 1) 0 (omega arith),
        set_patched p (2 * line_places) (n - 1) (omega arith),
        read-after slot_in 2 line_places p (2 * line_places) ((n - 1) ∷ []) (omega arith) (omega arith),
        cut_moved 2 (n - 1) line_places l (omega arith) (omega arith),
        map_paste slot_in (cut 2 line_places l) 0 (drop 1 (cut 2 line_places l)) (n - 1),
        map-drop slot_in 1 (cut 2 line_places l),
      )

  -- ---- it keeps all its words

  pub set_keeps : (k w : ℕ) → length (set l k w) ≡ line_words
  set_keeps k w = length-set l k w ∙ long

  pub leave-keeps : (n : ℕ) → 1 ≤ n → n ≤ line_places → length (paste l 0 (drop 2 l) (2 * n - 2)) ≡ line_words
  leave-keeps n h b =
      let d : 2 * n - 2 ≤ length (drop 2 l) = rw length-drop (omega arith) in
      length-paste l 0 (drop 2 l) (2 * n - 2) (omega arith) d ∙ long
