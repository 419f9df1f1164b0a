-- The words of a list of packets: its size, the packet at a place, one more, and a run of it left out by moving the later words down.
-- Assumes that it has all its words.
use Prim.Native.Nat.{ℕ, ◌+◌, ◌-◌, ◌≤◌, ◌<◌, min}
use mathlib.Core.Path.{◌≡◌, refl, sym, ap, ◌∙◌}
use Rattle.std.specs.Prelude.{position}
use mathlib.Core.Bool.{Bool, ◌&&◌}
use mathlib.Core.List.{List, [], ◌∷◌, map, ◌++◌}
use native.Mathlib.Omega.{arith}
use native.Mathlib.Nat.{not-suc-le-zero}
use borrow.Author.Tests.{lt-ltb, le-leb, leb-true}
use lib.Dec.{leb}
use lib.ListN.{length, get_or, take, drop, set, length-take, length-drop, length-set}
use lib.Seq.{length_paste_head, take-append-add, take-take, take_all, take-set-le, take-set-lt, get_or-take, get_or-set_same}
use Rattle.basics.proofs.Branches.{by_test, and_left, and_right}
use Rattle.basics.proofs.Maps.{length_made}
use Rattle.basics.specs.Lists.{find}
use Rattle.basics.proofs.Each.{by_order_lem}
use Rattle.basics.proofs.Shift.{moved, length_moved, drop-take}
use Rattle.basics.proofs.Walk.{kept}
use Rattle.packets.specs.declared.Category.{Category}
use Rattle.packets.specs.declared.Category.TheVariants.{Posted, NonPosted, Completion}
use Rattle.packets.specs.Packets.{number_of}
use Rattle.credits.specs.Credits.{none, credit}
use Rattle.choice.specs.Choice.{credit_of}
use Rattle.store.specs.declared.Packets.{Packets}
use Rattle.store.proofs.Chains.{std_position}
use Rattle.store.specs.Store.{packets, no_packet, held, at, pushed, without}
use Rattle.words.specs.Words.{packet_in, credit_in}
use Rattle.words.specs.Memory.{places, list_words, packets_in}
use Rattle.words.proofs.Patched.{map-set, map_paste, map-drop, map-take, get_or_mapped}

-- ---- the first of a row that passes a test, where the test reads each word

module _ {A B : Type 0} (ok : B → Bool) (g : A → B) where
  find_mapped : (xs : List A) (k : ℕ) → find (λ x. ok (g x)) xs k ≡ find ok (map g xs) k
  find_mapped [] k = refl
  find_mapped (x ∷ xs) k = rw (find_mapped xs (k + 1))

  pub position_mapped : (xs : List A) → position (λ x. ok (g x)) xs ≡ find ok (map g xs) 0
  position_mapped xs = std_position (λ x. ok (g x)) xs ∙ find_mapped xs 0

-- ---- words moved down

module _ {A : Type 0} (xs : List A) (a b k : ℕ) (order : a ≤ b) (long : b + k ≤ length xs) where
  room : k ≤ length (drop b xs)
  room = rw length-drop (omega arith)

  -- they move in the front as they move in the whole
  take_within : (m : ℕ) → b + k ≤ m → take m (moved xs a b k) ≡ moved (take m xs) a b k
  take_within m h =
      let p : List A = take a xs ++ take k (drop b xs) in
      let n : ℕ = m - (a + k) in
      let e : m ≡ length p + n = rw (length_paste_head xs a (drop b xs) k (omega arith) room) (omega arith) in
      ap (λ (j : ℕ). take j (moved xs a b k)) e
      ∙ take-append-add p (drop (a + k) xs) n
      ∙ rw (
        take-take a m xs (omega arith),
        drop-take b m xs (omega arith),
        take-take k (m - b) (drop b xs) (omega arith),
        drop-take (a + k) m xs (omega arith),
      )

-- past its places there is nothing to take out
pub none_past : (q : Packets) (a b : ℕ) → places < b → q ≡ without q a b
unfolding without
none_past q a b h =
    by_test (λ (r : Packets). q ≡ r) (leb a b && leb b q.len && leb q.len places)
    (λ t.
    let u = leb-true b q.len (and_right (leb a b) (leb b q.len) (and_left (leb a b && leb b q.len) (leb q.len places) t)) in
    let v = leb-true q.len places (and_right (leb a b && leb b q.len) (leb q.len places) t) in
    absurd (not-suc-le-zero {n = 0} (omega (arith, u, v))))
    (λ t. refl)

-- ---- a list in words

module _ (q : List ℕ) (long : length q ≡ list_words) where
  length_items : length (packets_in q).items ≡ places
  length_items = length_made packet_in q places (omega arith)

  pub size_is : (n : ℕ) → n ≡ min (get_or q places 0) places → n ≡ length (held (packets_in q))
  size_is n e = rw length-take (omega (arith, length_items, e))

  -- what it holds, read from as many words
  pub held_is : (n : ℕ) → n ≡ length (held (packets_in q)) → held (packets_in q) ≡ map packet_in (take n q)
  held_is n e =
      let k : n ≡ min (get_or q places 0) places = rw length-take at e ∙ omega (arith, length_items) in
      by_order_lem (get_or q places 0) places
      (λ h.
      let few : n ≡ get_or q places 0 = omega arith in
      rw (few, ← map-take, take-take (get_or q places 0) places q (omega arith)))
      (λ h.
      let all : n ≡ places = omega arith in
      rw (all, take_all (get_or q places 0) (map packet_in (take places q)) (omega (arith, length_items))))

  pub item_is : (i : ℕ) → i < places → get_or (packets_in q).items i no_packet ≡ packet_in (get_or q i 0)
  item_is i h =
      let l : i < length (take places q) = rw length-take (omega arith) in
      get_or_mapped packet_in (take places q) i 0 no_packet l ∙ ap packet_in (get_or-take places q i 0 h)

  pub word-is : (i : ℕ) → i < length (held (packets_in q)) → i < places → packet_in (get_or q i 0) ≡ at (packets_in q) i
  word-is i h k = sym (kept (packets_in q).items (packets_in q).len i no_packet h ∙ item_is i k)

  set_keeps : (k w : ℕ) → length (set q k w) ≡ list_words
  set_keeps k w = length-set q k w ∙ long

  put-size : (n : ℕ) → packets_in (set q places n) ≡ packets (packets_in q).items n
  put-size n = rw (take-set-le places q places n (omega arith), get_or-set_same q places n 0 (omega arith))

module _ (q : List ℕ) (long : length q ≡ list_words) where
  -- one more
  pub put_word : (n w : ℕ) → n ≡ get_or q places 0 → n < places
      → (packets_in (set (set q n w) places (n + 1)) ≡ pushed (packets_in q) (packet_in w)) × (length (set (set q n w) places (n + 1)) ≡ list_words)
  unfolding pushed
  put_word n w e h =
      let keeps : length (set q n w) ≡ list_words = set_keeps q long n w in (
        put-size (set q n w) keeps (n + 1) ∙ rw (take-set-lt places q n w h, map-set, sym e, lt-ltb n places h),
        set_keeps (set q n w) keeps places (n + 1),
      )

  -- some left out: the words m are those of q, of which the later ones have moved down
  module _ (a b n : ℕ) (is : n ≡ get_or q places 0) (order : a ≤ b) (bound : b ≤ n) (few : n ≤ places) where
    pub left_out : (m : List ℕ) → m ≡ moved q a b (n - b)
        → (packets_in (set m places (n - (b - a))) ≡ without (packets_in q) a b) × (length (set m places (n - (b - a))) ≡ list_words)
    unfolding without
    left_out m down =
        let keeps : length m ≡ list_words = rw down (length_moved q a b n order bound (omega arith) ∙ long) in (
          put-size m keeps (n - (b - a))
              ∙ rw (
                down,
                take_within q a b (n - b) order (omega arith) places (omega arith),
                map_paste packet_in (take places q) a (drop b (take places q)) (n - b),
                map-drop packet_in b (take places q),
                sym is,
                le-leb a b order,
                le-leb b n bound,
                le-leb n places few,
              ),
          set_keeps m keeps places (n - (b - a)),
        )

-- ---- the credit of a category, of a channel's three

pub credit-is : (k : List ℕ) → length k ≡ 3 → (c : Category) → credit_in (get_or k (number_of c) 0) ≡ credit_of (map credit_in k) c
credit-is k long c = sym (get_or_mapped credit_in k (number_of c) 0 (credit none none) (below c))
  where
    below : (c : Category) → number_of c < length k
    below Posted = omega arith
    below NonPosted = omega arith
    below Completion = omega arith
