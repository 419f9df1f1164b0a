-- What a list of packets holds after each change, and that its array keeps its length.
-- Its array has 48 places, as every value of the code has. Assumes nothing else.
use Prim.Native.Nat.{ℕ, ◌+◌, ◌-◌, ◌<◌, ◌≤◌}
use mathlib.Core.Path.{◌≡◌, refl, ◌∙◌}
use mathlib.Core.Bool.{◌&&◌}
use mathlib.Core.List.{[], ◌∷◌, ◌++◌}
use native.Mathlib.Omega.{arith}
use borrow.Author.Tests.{lt-ltb, le-leb, leb-true}
use lib.ListN.{length, take, drop, length-set}
use lib.Seq.{length-take-le}
use lib.Dec.{leb, ltb}
use Rattle.basics.proofs.Branches.{by_test, and_left, and_right}
use Rattle.packets.specs.declared.Packet.{Packet}
use Rattle.basics.proofs.Shift.{take-pushed, take-moved, length_moved}
use Rattle.store.specs.declared.Packets.{Packets}
use Rattle.store.specs.Store.{empty, held, pushed, without, removed, released}

pub held-empty : held empty ≡ []
held-empty = refl

pub length-empty : length empty.items ≡ 48
length-empty = refl

module _ (q : Packets) (long : length q.items ≡ 48) where
  pub length-held : q.len ≤ 48 → length (held q) ≡ q.len
  length-held h = length-take-le q.len q.items (omega arith)

  -- ---- one more

  pub held-pushed : (p : Packet) → q.len < 48 → held (pushed q p) ≡ held q ++ (p ∷ [])
  unfolding pushed
  held-pushed p h = simp (pushed, lt-ltb q.len 48 h) (take-pushed q.items q.len p (omega arith))

  pub len_pushed : (p : Packet) → q.len < 48 → (pushed q p).len ≡ q.len + 1
  unfolding pushed
  len_pushed p h = simp (pushed, lt-ltb q.len 48 h)

  pub length-pushed : (p : Packet) → length (pushed q p).items ≡ length q.items
  unfolding pushed
  length-pushed p = by_test (λ (r : Packets). length r.items ≡ length q.items) (ltb q.len 48) (λ t. length-set q.items q.len p) (λ t. refl)

  -- ---- some taken out

  module _ (a b : ℕ) (order : a ≤ b) (bound : b ≤ q.len) (room : q.len ≤ 48) where
    pub held-without : held (without q a b) ≡ take a (held q) ++ drop b (held q)
    unfolding without
    held-without = simp (without, le-leb a b order, le-leb b q.len bound, le-leb q.len 48 room) (take-moved q.items a b q.len order bound (omega arith))

    pub len_without : (without q a b).len ≡ q.len - (b - a)
    unfolding without
    len_without = simp (without, le-leb a b order, le-leb b q.len bound, le-leb q.len 48 room)

  pub length_without : (a b : ℕ) → length (without q a b).items ≡ length q.items
  unfolding without
  length_without a b =
      by_test (λ (r : Packets). length r.items ≡ length q.items) (leb a b && leb b q.len && leb q.len 48)
      (λ t.
      let u = and_left (leb a b && leb b q.len) (leb q.len 48) t in
      length_moved q.items a b q.len (leb-true a b (and_left (leb a b) (leb b q.len) u)) (leb-true b q.len (and_right (leb a b) (leb b q.len) u))
      (omega (arith, leb-true q.len 48 (and_right (leb a b && leb b q.len) (leb q.len 48) t))))
      (λ t. refl)

  -- ---- the packet at i taken out, and the k oldest

  pub held-removed : (i : ℕ) → i < q.len → q.len ≤ 48 → held (removed q i) ≡ take i (held q) ++ drop (i + 1) (held q)
  held-removed i h room = held-without i (i + 1) (omega arith) (omega arith) room

  pub len_removed : (i : ℕ) → i < q.len → q.len ≤ 48 → (removed q i).len ≡ q.len - 1
  len_removed i h room = len_without i (i + 1) (omega arith) (omega arith) room ∙ omega arith

  pub held-released : (k : ℕ) → k ≤ q.len → q.len ≤ 48 → held (released q k) ≡ drop k (held q)
  held-released k h room = held-without 0 k (omega arith) h room

  pub len_released : (k : ℕ) → k ≤ q.len → q.len ≤ 48 → (released q k).len ≡ q.len - k
  len_released k h room = len_without 0 k (omega arith) h room ∙ omega arith

  pub length_removed : (i : ℕ) → length (removed q i).items ≡ length q.items
  length_removed i = length_without i (i + 1)

  pub length-released : (k : ℕ) → length (released q k).items ≡ length q.items
  length-released k = length_without 0 k
