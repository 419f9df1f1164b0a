-- Laws of the updates on the line back: one more at its end, one less at its front, more allocated.
-- Assumes nothing.
use Prim.Native.Nat.{ℕ, ◌<◌}
use mathlib.Core.Path.{◌≡◌, refl}
use mathlib.Core.List.{List, [], ◌∷◌, ◌++◌}
use lib.Dec.{eqb}
use borrow.Author.Tests.{eqb-true}
use Rattle.basics.proofs.Branches.{by_test}
use Rattle.basics.proofs.Each.{by_bool}
use Rattle.counters.specs.declared.Counts.{Counts}
use Rattle.counters.specs.declared.Seq.{Seq}
use Rattle.packets.specs.declared.Packet.{Packet}
use Rattle.packets.specs.declared.Category.{Category}
use Rattle.packets.specs.Packets.{slot_of}
use Rattle.frames.specs.declared.Frame.TheVariants as Frame
use Rattle.frames.specs.declared.Message.TheVariants as Message
use Rattle.line.specs.declared.Slot.{Slot}
use Rattle.line.specs.Line.{slot}
use Rattle.amounts.specs.Amounts.{Amount, Fits, wrapped}
use Rattle.amounts.proofs.Loads.{fits_refl, fits_trans}
use Rattle.traffic.specs.Traffic.{a_message, put, Updates, updates_end, updates_update, updates_ack, updates_nak, updates_packet}

-- ---- amounts, by slot

-- a larger amount at one slot
pub put_above : (f : ℕ → Amount) (k : ℕ) (x : Amount) → Fits (f k) x → (j : ℕ) → Fits (f j) (put f k x j)
put_above f k x h j = by_test (Fits (f j)) (eqb j k) (λ t. rw (eqb-true j k t) h) (λ t. fits_refl (f j))

-- the amount that stands at the slot anyway
pub put_same : (f : ℕ → Amount) (k j : ℕ) → Fits (put f k (f k) j) (f j)
put_same f k j = by_test (λ a. Fits a (f j)) (eqb j k) (λ t. rw (eqb-true j k t) (fits_refl (f k))) (λ t. fits_refl (f j))

-- one amount on both sides
pub put_both : (f g : ℕ → Amount) (k : ℕ) (x : Amount) → ((j : ℕ) → Fits (f j) (g j)) → (j : ℕ) → Fits (put f k x j) (put g k x j)
put_both f g k x h j = by_bool (eqb j k) (λ t. rw t (fits_refl x)) (λ t. rw t (h j))

-- ---- where the amounts start and end

module _ {n : ℕ} where
  pub updates_lower : {low lo hi : ℕ → Amount} {l : List Slot} → ((j : ℕ) → Fits (low j) (lo j)) → Updates n lo hi l → Updates n low hi l
  updates_lower h (updates_end f) = updates_end (λ j. fits_trans (h j) (f j))
  updates_lower {low = low} {lo = lo} h (updates_update channel c x u a b o) =
      updates_update channel c x u (fits_trans (h (slot_of channel c)) a) b
      (updates_lower {low = put low (slot_of channel c) x} {lo = put lo (slot_of channel c) x} (put_both low lo (slot_of channel c) x h) o)
  updates_lower {low = low} h (updates_ack o) = updates_ack (updates_lower {low = low} h o)
  updates_lower {low = low} h (updates_nak o) = updates_nak (updates_lower {low = low} h o)
  updates_lower {low = low} h (updates_packet o) = updates_packet (updates_lower {low = low} h o)

  -- more is allocated
  pub updates_more : {lo hi top : ℕ → Amount} {l : List Slot} → ((j : ℕ) → Fits (hi j) (top j)) → Updates n lo hi l → Updates n lo top l
  updates_more h (updates_end f) = updates_end (λ j. fits_trans (f j) (h j))
  updates_more h (updates_update channel c x u a b o) = updates_update channel c x u a (fits_trans b (h (slot_of channel c))) (updates_more h o)
  updates_more h (updates_ack o) = updates_ack (updates_more h o)
  updates_more h (updates_nak o) = updates_nak (updates_more h o)
  updates_more h (updates_packet o) = updates_packet (updates_more h o)

  pub updates_le : {lo hi : ℕ → Amount} {l : List Slot} → Updates n lo hi l → (j : ℕ) → Fits (lo j) (hi j)
  updates_le (updates_end f) j = f j
  updates_le {lo} (updates_update channel c x u a b o) j = fits_trans (put_above lo (slot_of channel c) x a j) (updates_le o j)
  updates_le (updates_ack o) j = updates_le o j
  updates_le (updates_nak o) j = updates_le o j
  updates_le (updates_packet o) j = updates_le o j

  -- ---- a frame goes onto the line

  -- one line after another: the second goes on where the first ends
  updates_join : {lo mid hi : ℕ → Amount} {l k : List Slot} → Updates n lo mid l → Updates n mid hi k → Updates n lo hi (l ++ k)
  updates_join (updates_end f) y = updates_lower f y
  updates_join (updates_update channel c x u a b o) y =
      updates_update channel c x u a (fits_trans b (updates_le y (slot_of channel c))) (updates_join o y)
  updates_join (updates_ack o) y = updates_ack (updates_join o y)
  updates_join (updates_nak o) y = updates_nak (updates_join o y)
  updates_join (updates_packet o) y = updates_packet (updates_join o y)

  none : {hi : ℕ → Amount} → Updates n hi hi []
  none {hi} = updates_end (λ j. fits_refl (hi j))

  module _ {lo hi : ℕ → Amount} {l : List Slot} where
    pub updates_updated : (channel : ℕ) (c : Category) → channel < n → Updates n lo hi l
        → Updates n lo hi (l ++ (a_message (Message.Update channel c (wrapped (hi (slot_of channel c)))) ∷ []))
    updates_updated channel c u o =
        let k = slot_of channel c in
        updates_join o (updates_update channel c (hi k) u (fits_refl (hi k)) (fits_refl (hi k)) (updates_end (put_same hi k)))

    pub updates_ack-sent : (number : Seq) → Updates n lo hi l → Updates n lo hi (l ++ (a_message (Message.Ack number) ∷ []))
    updates_ack-sent number o = updates_join o (updates_ack none)

    pub updates_nak-sent : (number : Seq) → Updates n lo hi l → Updates n lo hi (l ++ (a_message (Message.Nak number) ∷ []))
    updates_nak-sent number o = updates_join o (updates_nak none)

    pub updates_other : (number : Seq) (p : Packet) → Updates n lo hi l → Updates n lo hi (l ++ (slot (Frame.Packet number p) ∷ []))
    updates_other number p o = updates_join o (updates_packet none)

  -- ---- the oldest frame leaves

  pub updates_rest : {lo hi : ℕ → Amount} {x : Slot} {l : List Slot} → Updates n lo hi (x ∷ l) → Updates n lo hi l
  updates_rest {lo} (updates_update channel c x u a b o) = updates_lower (put_above lo (slot_of channel c) x a) o
  updates_rest (updates_ack o) = o
  updates_rest (updates_nak o) = o
  updates_rest (updates_packet o) = o

-- what is known of an update that is the oldest frame: the true amount behind its counts, and the others go up from it
pub record Limits (n : ℕ) (lo hi : ℕ → Amount) (channel : ℕ) (c : Category) (x : Counts) (l : List Slot) : Type 0 where
  pub is : Amount
  pub stored : x ≡ wrapped is
  pub used : channel < n
  pub low : Fits (lo (slot_of channel c)) is
  pub high : Fits is (hi (slot_of channel c))
  pub rest : Updates n (put lo (slot_of channel c) is) hi l

pub updates_heard : {n : ℕ} {lo hi : ℕ → Amount} {channel : ℕ} {c : Category} {x : Counts} {l : List Slot}
    → Updates n lo hi (a_message (Message.Update channel c x) ∷ l) → Limits n lo hi channel c x l
updates_heard (updates_update channel c x u a b o) = record { is = x; stored = refl; used = u; low = a; high = b; rest = o }
