-- Laws of the updates on the line back that end at an exact amount: one more at its end, one less at its front, none.
-- At the end: counts that are equal stand for one amount, where both lie within less than a lap. Assumes nothing.
use Prim.Native.Nat.{ℕ, ◌-◌, ◌<◌}
use mathlib.Core.Path.{◌≡◌, refl, ap, ◌∙◌}
use mathlib.Core.List.{List, [], ◌∷◌, ◌++◌}
use native.Mathlib.Omega.{arith}
use lib.Dec.{eqb}
use Rattle.basics.proofs.Each.{by_bool}
use Rattle.counters.specs.declared.Counts.{Counts}
use Rattle.counters.specs.declared.Seq.{Seq}
use Rattle.packets.specs.declared.Packet.{Packet}
use Rattle.packets.specs.declared.Category.{Category}
use Rattle.packets.specs.Packets.{slot_of}
use Rattle.frames.specs.declared.Frame.TheVariants as Frame
use Rattle.frames.specs.declared.Message.TheVariants as Message
use Rattle.line.specs.declared.Slot.{Slot}
use Rattle.line.specs.Line.{slot}
use Rattle.amounts.specs.Amounts.{Amount, amount, Fits, wrapped}
use Rattle.traffic.specs.Traffic.{a_message, put, Updates, updates_end, updates_update, updates_ack, updates_nak, updates_packet}
use Rattle.amounts.proofs.Loads.{fits_refl, fits_trans}
use Rattle.traffic.proofs.Updates.{put_above}
use Rattle.quiet.specs.Quiet.{Raised, raised_end, raised_update, raised_ack, raised_nak, raised_packet}

-- ---- where the amounts start and end

-- the same start, said otherwise
put_as : (f g : ℕ → Amount) (k : ℕ) (x : Amount) → ((j : ℕ) → f j ≡ g j) → (j : ℕ) → put f k x j ≡ put g k x j
put_as f g k x h j = by_bool (eqb j k) (λ t. rw t) (λ t. rw t (h j))

raised_from : {lo start top : ℕ → Amount} {l : List Slot} → ((j : ℕ) → lo j ≡ start j) → Raised start top l → Raised lo top l
raised_from h (raised_end f) = raised_end (λ j. h j ∙ f j)
raised_from {lo = lo} {start = start} h (raised_update channel c x a o) =
    let k = slot_of channel c in
    let low : Fits (lo k) x = rw (h k) a in
    raised_update channel c x low (raised_from {lo = put lo k x} {start = put start k x} (put_as lo start k x h) o)
raised_from {lo = lo} h (raised_ack o) = raised_ack (raised_from {lo = lo} h o)
raised_from {lo = lo} h (raised_nak o) = raised_nak (raised_from {lo = lo} h o)
raised_from {lo = lo} h (raised_packet o) = raised_packet (raised_from {lo = lo} h o)

pub raised-le : {lo top : ℕ → Amount} {l : List Slot} → Raised lo top l → (j : ℕ) → Fits (lo j) (top j)
raised-le {lo} (raised_end f) j = rw (← f j) (fits_refl (lo j))
raised-le {lo} (raised_update channel c x a o) j = fits_trans (put_above lo (slot_of channel c) x a j) (raised-le o j)
raised-le (raised_ack o) j = raised-le o j
raised-le (raised_nak o) j = raised-le o j
raised-le (raised_packet o) j = raised-le o j

-- the updates of a direction end somewhere, at most at what is allocated
pub record Ends (lo hi : ℕ → Amount) (l : List Slot) : Type 0 where
  pub top : ℕ → Amount
  pub raised : Raised lo top l
  pub most : (j : ℕ) → Fits (top j) (hi j)

pub updates_raised : {n : ℕ} {lo hi : ℕ → Amount} {l : List Slot} → Updates n lo hi l → Ends lo hi l
updates_raised {lo = lo} (updates_end f) = record { top = lo; raised = raised_end (λ j. refl); most = f }
updates_raised (updates_update channel c x u a b o) =
    let e = updates_raised o in
    record { top = e.top; raised = raised_update channel c x a e.raised; most = e.most }
updates_raised (updates_ack o) = let e = updates_raised o in record { top = e.top; raised = raised_ack e.raised; most = e.most }
updates_raised (updates_nak o) = let e = updates_raised o in record { top = e.top; raised = raised_nak e.raised; most = e.most }
updates_raised (updates_packet o) = let e = updates_raised o in record { top = e.top; raised = raised_packet e.raised; most = e.most }

-- ---- a frame goes onto the line

-- one line after another: the second goes on where the first ends
raised_join : {lo mid top : ℕ → Amount} {l k : List Slot} → Raised lo mid l → Raised mid top k → Raised lo top (l ++ k)
raised_join (raised_end f) y = raised_from f y
raised_join (raised_update channel c x a o) y = raised_update channel c x a (raised_join o y)
raised_join (raised_ack o) y = raised_ack (raised_join o y)
raised_join (raised_nak o) y = raised_nak (raised_join o y)
raised_join (raised_packet o) y = raised_packet (raised_join o y)

none : {top : ℕ → Amount} → Raised top top []
none = raised_end (λ j. refl)

module _ {lo top : ℕ → Amount} {l : List Slot} where
  pub raised-updated : (channel : ℕ) (c : Category) (x : Amount) → Fits (top (slot_of channel c)) x → Raised lo top l
      → Raised lo (put top (slot_of channel c) x) (l ++ (a_message (Message.Update channel c (wrapped x)) ∷ []))
  raised-updated channel c x a o = raised_join o (raised_update channel c x a none)

  pub raised_ack-sent : (number : Seq) → Raised lo top l → Raised lo top (l ++ (a_message (Message.Ack number) ∷ []))
  raised_ack-sent number o = raised_join o (raised_ack none)

  pub raised_nak-sent : (number : Seq) → Raised lo top l → Raised lo top (l ++ (a_message (Message.Nak number) ∷ []))
  raised_nak-sent number o = raised_join o (raised_nak none)

  pub raised-other : (number : Seq) (p : Packet) → Raised lo top l → Raised lo top (l ++ (slot (Frame.Packet number p) ∷ []))
  raised-other number p o = raised_join o (raised_packet none)

-- ---- the oldest frame leaves

-- what is known of an update that is the oldest frame: the true amount behind its counts, and the others go up from it
pub record Raises (lo top : ℕ → Amount) (channel : ℕ) (c : Category) (x : Counts) (l : List Slot) : Type 0 where
  pub is : Amount
  pub stored : x ≡ wrapped is
  pub low : Fits (lo (slot_of channel c)) is
  pub rest : Raised (put lo (slot_of channel c) is) top l

module _ {lo top : ℕ → Amount} where
  pub raised-heard : {channel : ℕ} {c : Category} {x : Counts} {l : List Slot} → Raised lo top (a_message (Message.Update channel c x) ∷ l)
      → Raises lo top channel c x l
  raised-heard (raised_update channel c x a o) = record { is = x; stored = refl; low = a; rest = o }

  pub raised_ack_gone : {number : Seq} {l : List Slot} → Raised lo top (a_message (Message.Ack number) ∷ l) → Raised lo top l
  raised_ack_gone (raised_ack o) = o

  pub raised_nak_gone : {number : Seq} {l : List Slot} → Raised lo top (a_message (Message.Nak number) ∷ l) → Raised lo top l
  raised_nak_gone (raised_nak o) = o

  pub raised_packet_gone : {number : Seq} {p : Packet} {l : List Slot} → Raised lo top (slot (Frame.Packet number p) ∷ l) → Raised lo top l
  raised_packet_gone (raised_packet o) = o

  -- where no frame is left
  pub raised-empty : Raised lo top [] → (j : ℕ) → lo j ≡ top j
  raised-empty (raised_end f) j = f j

-- ---- counts that are equal

pub amount-same : (x y : Amount) → x.h ≡ y.h → x.d ≡ y.d → x ≡ y
amount-same x y a b =
    let e : amount x.h x.d ≡ amount y.h y.d = rw (a, b) in
    e

pub wrapped_same : (lo hi x y : Amount) → Fits lo x → Fits x hi → Fits lo y → Fits y hi → hi.h - lo.h < 256 → hi.d - lo.d < 4096
    → wrapped x ≡ wrapped y → x ≡ y
unfolding wrapped
wrapped_same lo hi x y a b c e near close same =
    amount-same x y
    (omega (arith, a.h, b.h, c.h, e.h, ap (λ (w : Counts). w.h.0) same))
    (omega (arith, a.d, b.d, c.d, e.d, ap (λ (w : Counts). w.d.0) same))
