-- What the packets of a slot cost together: one packet more, two runs, a first part, and the load of a channel and category.
-- Assumes nothing.
use Prim.Native.Nat.{ℕ}
use mathlib.Core.Path.{◌≡◌, refl, sym, ap, ◌∙◌}
use mathlib.Core.Bool.{Bool, true, false, ◌&&◌}
use mathlib.Core.List.{List, [], ◌∷◌, ◌++◌}
use mathlib.Core.Logic.{◌≢◌}
use native.Mathlib.Omega.{arith}
use native.Mathlib.Nat.{add_assoc, add-zero, le_refl, le_trans}
use lib.Dec.{eqb}
use lib.ListN.{length, take, drop, take-append-drop}
use borrow.Author.Tests.{eq-eqb, ne_eqb, eqb-true, eqb-false}
use Rattle.basics.proofs.Filters.{filter-append, filter_snoc_in, filter_snoc_out, filter-both}
use Rattle.basics.proofs.Totals.{total-append}
use Rattle.packets.specs.declared.Packet.{Packet}
use Rattle.packets.specs.declared.Category.{Category}
use Rattle.packets.specs.Packets.{number_of, slot_of, category_of, header_units, data_units, data_together}
use Rattle.packets.proofs.Numbers.{number_below}
use Rattle.store.specs.Store.{is_of, of_category}
use Rattle.store.proofs.Categories.{headers-counted}
use Rattle.setup.specs.declared.Setup.{Setup}
use Rattle.amounts.specs.Amounts.{Amount, amount, Fits, plus, amount_of, together, channel_for, is_on, on, slot_for, in_slot, load, given, allowed}

-- ---- amounts by size

pub fits_refl : (a : Amount) → Fits a a
fits_refl a = record { h = le_refl a.h; d = le_refl a.d }

pub fits_trans : {a b c : Amount} → Fits a b → Fits b c → Fits a c
fits_trans f g = record { h = le_trans f.h g.h; d = le_trans f.d g.d }

pub fits_plus : (c a b : Amount) → Fits a b → Fits (plus c a) (plus c b)
fits_plus c a b f = record { h = omega (arith, f.h); d = omega (arith, f.d) }

-- a sum is at least as large as its first part
pub fits_more : (a b : Amount) → Fits a (plus a b)
fits_more a b = record { h = omega arith; d = omega arith }

module _ (link : Setup) where
  -- ---- the packets of a channel after one more

  pub on_same : (channel : ℕ) (ps : List Packet) (p : Packet) → channel_for link p ≡ channel
      → on link channel (ps ++ (p ∷ [])) ≡ on link channel ps ++ (p ∷ [])
  on_same channel ps p e = filter_snoc_in (is_on link channel) ps p (eq-eqb (channel_for link p) channel e)

  pub on-other : (channel : ℕ) (ps : List Packet) (p : Packet) → channel_for link p ≢ channel
      → on link channel (ps ++ (p ∷ [])) ≡ on link channel ps
  on-other channel ps p e = filter_snoc_out (is_on link channel) ps p (ne_eqb (channel_for link p) channel e)

  -- ---- the load of a slot

  pub load-start : (slot : ℕ) → load link [] slot ≡ amount 0 0
  unfolding load together
  load-start slot = refl

  pub load-append : (a b : List Packet) (slot : ℕ) → load link (a ++ b) slot ≡ plus (load link a slot) (load link b slot)
  unfolding load together
  load-append a b slot = rw (filter-append, total-append header_units, total-append data_units)

  -- one packet alone
  pub load_one : (p : Packet) → load link (p ∷ []) (slot_for link p) ≡ amount_of p
  unfolding load together
  load_one p = rw (eq-eqb (slot_for link p) (slot_for link p) refl, add-zero (data_units p))

  pub load-none : (p : Packet) (slot : ℕ) → slot ≢ slot_for link p → load link (p ∷ []) slot ≡ amount 0 0
  unfolding load together
  load-none p slot n = rw (ne_eqb (slot_for link p) slot (λ e. n (sym e)))

  -- one packet more, at the end
  pub load_same : (ps : List Packet) (p : Packet)
      → load link (ps ++ (p ∷ [])) (slot_for link p) ≡ plus (load link ps (slot_for link p)) (amount_of p)
  load_same ps p = rw (load-append ps (p ∷ []) (slot_for link p), load_one p)

  pub load-other : (ps : List Packet) (p : Packet) (slot : ℕ) → slot ≢ slot_for link p
      → load link (ps ++ (p ∷ [])) slot ≡ load link ps slot
  load-other ps p slot n = rw (load-append ps (p ∷ []) slot, load-none p slot n, add-zero (load link ps slot).h, add-zero (load link ps slot).d)

  pub load_grows : (ps : List Packet) (p : Packet) (slot : ℕ) → Fits (load link ps slot) (load link (ps ++ (p ∷ [])) slot)
  load_grows ps p slot = rw (load-append ps (p ∷ []) slot) (fits_more (load link ps slot) (load link (p ∷ []) slot))

  pub load-take : (n : ℕ) (ps : List Packet) (slot : ℕ) → Fits (load link (take n ps) slot) (load link ps slot)
  load-take n ps slot =
      let e : load link ps slot ≡ plus (load link (take n ps) slot) (load link (drop n ps) slot)
      = ap (λ l. load link l slot) (sym (take-append-drop n ps)) ∙ load-append (take n ps) (drop n ps) slot in
      rw e (fits_more (load link (take n ps) slot) (load link (drop n ps) slot))

  -- ---- what a receiver allows, after one packet more is taken

  pub allowed_same : (taken : List Packet) (p : Packet)
      → allowed link (taken ++ (p ∷ [])) (slot_for link p) ≡ plus (allowed link taken (slot_for link p)) (amount_of p)
  unfolding allowed
  allowed_same taken p =
      let slot = slot_for link p in
      rw (
        load_same taken p,
        add_assoc (given link slot).h (load link taken slot).h 1,
        add_assoc (given link slot).d (load link taken slot).d (data_units p),
      )

  pub allowed-other : (taken : List Packet) (p : Packet) (slot : ℕ) → slot ≢ slot_for link p
      → allowed link (taken ++ (p ∷ [])) slot ≡ allowed link taken slot
  unfolding allowed
  allowed-other taken p slot n = rw (load-other taken p slot n)

  pub allowed_grows : (taken : List Packet) (p : Packet) (slot : ℕ) → Fits (allowed link taken slot) (allowed link (taken ++ (p ∷ [])) slot)
  unfolding allowed
  allowed_grows taken p slot =
      fits_plus (given link slot) (load link taken slot) (load link (taken ++ (p ∷ [])) slot) (load_grows taken p slot)

  -- ---- the load of a channel and category

  module _ (channel : ℕ) (c : Category) where
    -- a packet is in the slot of a channel and category if it is on the channel and of the category
    slot_test : (p : Packet) → eqb (slot_for link p) (slot_of channel c) ≡ (is_on link channel p && is_of c p)
    slot_test p = go (is_on link channel p) refl (is_of c p) refl
      where
        go : (s : Bool) → is_on link channel p ≡ s → (t : Bool) → is_of c p ≡ t → eqb (slot_for link p) (slot_of channel c) ≡ (s && t)
        go true a true b =
            eq-eqb (slot_for link p) (slot_of channel c)
            (omega (arith, eqb-true (channel_for link p) channel a, eqb-true (number_of (category_of p)) (number_of c) b))
        go true a false b =
            ne_eqb (slot_for link p) (slot_of channel c)
            (λ e. eqb-false (number_of (category_of p)) (number_of c) b (omega (arith, e, eqb-true (channel_for link p) channel a)))
        go false a t b =
            ne_eqb (slot_for link p) (slot_of channel c)
            (λ e. eqb-false (channel_for link p) channel a (omega (arith, e, number_below c, number_below (category_of p))))

    pub in_slot_lem : (ps : List Packet) → in_slot link (slot_of channel c) ps ≡ of_category c (on link channel ps)
    in_slot_lem ps = filter-both (λ p. eqb (slot_for link p) (slot_of channel c)) (is_on link channel) (is_of c) slot_test ps

    pub load_of : (ps : List Packet)
        → load link ps (slot_of channel c) ≡ amount (length (of_category c (on link channel ps))) (data_together (of_category c (on link channel ps)))
    unfolding load together
    load_of ps = rw (in_slot_lem ps, headers-counted)
