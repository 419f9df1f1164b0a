-- Numbers that are too large for their types are refused as they are: Submit and Take answer the same for a capped number.
-- Assumes nothing.
use Rattle.std.specs.Prelude.{if◌then◌else◌, Some, None}
use Prim.Native.Nat.{ℕ, ◌≤◌, ◌<◌}
use mathlib.Core.Path.{◌≡◌, refl, sym, ap, ◌∙◌}
use mathlib.Core.Logic.{◌≢◌}
use mathlib.Core.Bool.{Bool, true, false, ◌&&◌, ◌||◌, not}
use native.Mathlib.Omega.{arith}
use borrow.Author.Tests.{le-leb, lt-leb, lt-ltb, ne_eqb, eqb-false, leb-true}
use lib.Dec.{leb, ltb, eqb}
use Rattle.basics.specs.Choice.{first_of}
use Rattle.basics.proofs.All.{all_past}
use Rattle.basics.proofs.Branches.{by_test, and-false}
use Rattle.basics.proofs.Each.{by_order_lem}
use Rattle.setup.specs.Setup.{channels}
use Rattle.packets.specs.declared.Packet.{Packet}
use Rattle.packets.specs.declared.Rule.{Rule}
use Rattle.packets.specs.Packets.{rules, no_rule, rule_of, numbered, packet_answer, kind_answer, class_answer, length_answer}
use Rattle.receiver.specs.declared.Receiver.{Receiver}
use Rattle.delivery.specs.Delivery.{Got}
use Rattle.delivery.specs.Delivery.{got, taken_by, take_of}
use Rattle.ends.specs.declared.End.{End}
use Rattle.ends.specs.Ends.{stepped, submit_answer, submit_of, take_at, by_receiver}
use Rattle.script.specs.declared.Step.{Step}
use Rattle.pairs.specs.Capped.{capped, capped_packet}
use Rattle.pairs.specs.Steps.{packet_of}

-- ---- Submit

-- a packet that the rules refuse is refused with their number
refused-same : (e : End) (p q : Packet) → packet_answer p ≡ packet_answer q → packet_answer q ≢ 0 → submit_of e p ≡ submit_of e q
unfolding submit_of submit_answer
refused-same e p q same n = refuses p (λ z. n (sym same ∙ z)) ∙ rw same (sym (refuses q n))
  where
    refuses : (x : Packet) → packet_answer x ≢ 0 → submit_of e x ≡ stepped e (packet_answer x) 0
    refuses x m = simp (submit_of, submit_answer, ne_eqb (packet_answer x) 0 m)

most_below : (kind : ℕ) → (rule_of kind).most ≤ 1024
unfolding rule_of
most_below kind = leb-true _ 1024 (all_past (λ (r : Rule). leb r.most 1024) rules kind no_rule refl refl)

first_over : (a b : ℕ) → b ≢ 0 → first_of a b ≢ 0
first_over a b n = go (eqb a 0) refl
  where
    go : (t : Bool) → eqb a 0 ≡ t → (if t then b else a) ≢ 0
    go true e = n
    go false e = λ z. eqb-false a 0 e z

module _ (t : Step) where
  abbrev p : Packet
  p = packet_of t

  abbrev q : Packet
  q = capped_packet t

  -- a kind over 255 is over 9
  kind_over : 255 < t.kind → (packet_answer q ≡ packet_answer p) × (packet_answer p ≢ 0)
  unfolding packet_answer
  kind_over h =
      let over : 9 < t.kind = omega arith in
      let cap : leb t.kind 255 ≡ false = lt-leb t.kind 255 h in
      (rw (cap, lt-ltb 9 t.kind over), rw (lt-ltb 9 t.kind over) (λ z. omega arith))

  module _ (kind : t.kind ≤ 255) where
    same_kind : capped 255 t.kind ≡ t.kind
    same_kind = rw (le-leb t.kind 255 kind)

    -- a class over 255 is over 7
    class_over : 255 < t.class → (packet_answer q ≡ packet_answer p) × (packet_answer p ≢ 0)
    unfolding packet_answer
    class_over h =
        let over : 7 < t.class = omega arith in
        let cap : leb t.class 255 ≡ false = lt-leb t.class 255 h in (
          rw (same_kind, cap, lt-ltb 7 t.class over),
          rw (lt-ltb 7 t.class over) (first_over (kind_answer t.kind) 13 (λ z. omega arith)),
        )

    module _ (class : t.class ≤ 255) where
      same_class : capped 255 t.class ≡ t.class
      same_class = rw (le-leb t.class 255 class)

      -- a length over 65,535 is over 1,024
      length_over : 65535 < t.length → (packet_answer q ≡ packet_answer p) × (packet_answer p ≢ 0)
      unfolding packet_answer
      length_over h =
          let most = most_below t.kind in
          let cap : leb t.length 65535 ≡ false = lt-leb t.length 65535 h in
          let long : leb t.length (rule_of t.kind).most ≡ false = lt-leb t.length (rule_of t.kind).most (omega arith) in
          let held : leb 65535 (rule_of t.kind).most ≡ false = lt-leb 65535 (rule_of t.kind).most (omega arith) in (
            rw (same_kind, same_class, cap, held, long, and-false (leb (rule_of t.kind).least 65535), and-false (leb (rule_of t.kind).least t.length)),
            rw (long, and-false (leb (rule_of t.kind).least t.length))
                (first_over (kind_answer t.kind) _ (first_over (class_answer t.kind t.class) 14 (λ z. omega arith))),
          )

      same-packet : t.length ≤ 65535 → q ≡ p
      same-packet h = rw (same_kind, same_class, le-leb t.length 65535 h)

  pub submit-capped : (e : End) → submit_of e q ≡ submit_of e p
  submit-capped e =
      by_order_lem t.kind 256
      (λ k.
      let kind : t.kind ≤ 255 = omega arith in
      by_order_lem t.class 256
      (λ c.
      let class : t.class ≤ 255 = omega arith in
      by_order_lem t.length 65536
      (λ l. ap (submit_of e) (same-packet kind class (omega arith)))
      (λ l. let r = length_over kind class (omega arith) in refused-same e q p r.0 r.1))
      (λ c. let r = class_over kind (omega arith) in refused-same e q p r.0 r.1))
      (λ k. let r = kind_over (omega arith) in refused-same e q p r.0 r.1)

-- ---- Take

numbered_over : (k : ℕ) → 2 < k → numbered k ≡ None
numbered_over k h = rw (ne_eqb k 0 (λ e. omega arith), ne_eqb k 1 (λ e. omega arith), ne_eqb k 2 (λ e. omega arith))

module _ (r : Receiver) (n : ℕ) where
  channel_over : (channel category : ℕ) → 255 ≤ channel → take_of r n channel category ≡ got r 20 0
  unfolding take_of
  channel_over channel category h =
      by_test (λ (g : Got). g ≡ got r 20 0) (leb n channel) (λ e. refl)
      (λ e. rw (le-leb channels channel (omega arith)))

  category_over : (channel k : ℕ) → 2 < k → take_of r n channel k ≡ got r 20 0
  unfolding take_of
  category_over channel k h =
      by_test (λ (g : Got). g ≡ got r 20 0) (leb n channel) (λ e. refl)
      (λ e. by_test (λ (g : Got). g ≡ got r 20 0) (leb channels channel) (λ f. refl) (λ f. rw (numbered_over k h)))

  taken-capped : (channel category : ℕ) → take_of r n (capped 255 channel) (capped 255 category) ≡ take_of r n channel category
  taken-capped channel category =
      by_order_lem channel 256
      (λ c.
      by_order_lem category 256
      (λ k. rw (le-leb channel 255 (omega arith), le-leb category 255 (omega arith)))
      (λ k.
      rw (le-leb channel 255 (omega arith), lt-leb category 255 (omega arith))
      (category_over channel 255 (omega arith) ∙ sym (category_over channel category (omega arith)))))
      (λ c.
      rw (lt-leb channel 255 (omega arith))
      (channel_over 255 (capped 255 category) (omega arith) ∙ sym (channel_over channel category (omega arith))))

pub take-capped : (e : End) (channel category : ℕ) → take_at e (capped 255 channel) (capped 255 category) ≡ take_at e channel category
take-capped e channel category = ap (by_receiver e) (taken-capped e.receiver e.setup.n channel category)
