-- Submit refuses, or the packet joins its channel's send queue: what each of its tests says.
-- Assumes nothing.
use Rattle.std.specs.Prelude.{if◌then◌else◌}
use Prim.Native.Nat.{ℕ, ◌≤◌, ◌<◌}
use mathlib.Core.Path.{◌≡◌, refl}
use mathlib.Core.Bool.{Bool, true, false, ◌&&◌, ◌||◌, not}
use mathlib.Core.Logic.{◌⊎◌, inl, inr, ⊎_elim, ◌≢◌}
use native.Mathlib.Omega.{arith}
use borrow.Author.Tests.{ltb-false, leb-false, eqb-true, eqb-false}
use lib.Dec.{leb, ltb, eqb}
use lib.ListN.{length}
use Rattle.basics.specs.Choice.{first_of}
use Rattle.basics.proofs.Branches.{by_test, first_zero}
use Rattle.packets.specs.declared.Packet.{Packet}
use Rattle.packets.specs.Packets.{number_of, category_of, data_units, rule_of, kind_answer, class_answer, length_answer, packet_answer}
use Rattle.store.specs.Store.{held, of_category}
use Rattle.setup.specs.Setup.{units_at}
use Rattle.sender.specs.Sender.{queue_at, submitted}
use Rattle.ends.specs.declared.End.{End}
use Rattle.ends.specs.Ends.{end, stepped, channel_for, too_much, too_many, submit_answer, submit_of}
use Rattle.views.specs.Views.{Usual, usual, Submits, not_accepted, joins}

-- ---- the first of some answers

-- no refusal, or one from 12 to `last`
abbrev UpTo : ℕ → ℕ → Type 0
UpTo last n = (n ≡ 0) ⊎ ((12 ≤ n) × (n ≤ last))

refusal : (last n : ℕ) → 12 ≤ n → n ≤ last → UpTo last n
refusal last n low high = inr (low, high)

either : (last : ℕ) (t : Bool) (a b : ℕ) → UpTo last a → UpTo last b → UpTo last (if t then a else b)
either last t a b x y = by_test (UpTo last) t (λ e. x) (λ e. y)

first : (last a b : ℕ) → UpTo last a → UpTo last b → UpTo last (first_of a b)
first last a b x y = either last (eqb a 0) b a y x

-- where a test refuses nothing it fails
fails : (t : Bool) (n : ℕ) → 0 < n → (if t then n else 0) ≡ 0 → t ≡ false
fails true n h e = absurd (omega arith)
fails false n h e = refl

-- ---- the packet rules refuse with 12 to 14, the whole of Submit with 12 to 16

pub answers : (p : Packet) → (packet_answer p ≡ 0) ⊎ ((12 ≤ packet_answer p) × (packet_answer p ≤ 14))
unfolding packet_answer
answers p =
    let kind : UpTo 14 (kind_answer p.kind) =
    either 14 (ltb 9 p.kind) 12 0 (refusal 14 12 (omega arith) (omega arith)) (inl refl) in
    let class : UpTo 14 (class_answer p.kind p.class) =
    either 14 (ltb 7 p.class || ((leb 2 p.kind && leb p.kind 5) && not (eqb p.class 0))) 13 0
    (refusal 14 13 (omega arith) (omega arith)) (inl refl) in
    let long : UpTo 14 (length_answer (rule_of p.kind) p.length) =
    either 14 (leb (rule_of p.kind).least p.length && leb p.length (rule_of p.kind).most) 0 14 (inl refl)
    (refusal 14 14 (omega arith) (omega arith)) in
    first 14 _ _ kind (first 14 _ _ class long)

module _ (e : End) (p : Packet) where
  submit_answers : UpTo 16 (submit_answer e p)
  unfolding submit_answer
  submit_answers =
      let rules : UpTo 16 (packet_answer p) =
      ⊎_elim inl (λ (z : (12 ≤ packet_answer p) × (packet_answer p ≤ 14)). inr (z.0, omega (arith, z.1))) (answers p) in
      let much : UpTo 16 (too_much e p) =
      either 16 (ltb (units_at e.setup 1 (channel_for e p) (number_of (category_of p))).payload (data_units p)) 15 0
      (refusal 16 15 (omega arith) (omega arith)) (inl refl) in
      let many : UpTo 16 (too_many e p) =
      either 16 (leb 8 (length (of_category (category_of p) (held (queue_at e.sender (channel_for e p)))))) 16 0
      (refusal 16 16 (omega arith) (omega arith)) (inl refl) in
      first 16 _ _ rules (first 16 _ _ much many)

  -- ---- Submit

  refuses : submit_answer e p ≢ 0 → Usual (submit_answer e p)
  refuses h =
      ⊎_elim (λ z. absurd (h z))
      (λ (z : (12 ≤ submit_answer e p) × (submit_answer e p ≤ 16)). usual (omega (arith, z.0)) (omega (arith, z.1))) submit_answers

  joined : submit_answer e p ≡ 0 → Submits e p (stepped (end e.setup (submitted e.sender (channel_for e p) p) e.receiver) 0 0)
  unfolding submit_answer
  joined h =
      let a = first_zero (packet_answer p) (first_of (too_much e p) (too_many e p)) h in
      let b = first_zero (too_much e p) (too_many e p) a.1 in
      joins a.0 (ltb-false _ _ (fails _ 15 (omega arith) b.0)) (leb-false _ _ (fails _ 16 (omega arith) b.1))

  pub submit_view : Submits e p (submit_of e p)
  unfolding submit_of
  submit_view =
      by_test (Submits e p) (eqb (submit_answer e p) 0)
      (λ t. joined (eqb-true (submit_answer e p) 0 t))
      (λ t. not_accepted (refuses (eqb-false (submit_answer e p) 0 t)))
