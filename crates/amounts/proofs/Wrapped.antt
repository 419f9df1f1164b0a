-- What the stored counts say of the true amounts behind them: sums, differences and the tests of the gate, of updates and of the room.
-- At the end: what a packet that is not refused costs at most, since the gate asks for few units. Assumes nothing.
use Prim.Native.Nat.{ℕ, ◌+◌, ◌-◌, ◌≤◌, ◌<◌}
use mathlib.Core.Path.{◌≡◌, refl, sym, ◌∙◌}
use mathlib.Core.Bool.{Bool, true, ◌&&◌}
use native.Mathlib.Omega.{arith}
use native.Mathlib.Nat.{mod-lt}
use lib.Dec.{leb, ltb}
use borrow.Author.Tests.{le-leb, leb-true, ltb-false}
use Rattle.basics.specs.Choice.{first_of}
use Rattle.basics.proofs.All.{all_past}
use Rattle.basics.proofs.Branches.{by_test, and_left, and_right, first_zero}
use Rattle.basics.proofs.Each.{by_bool}
use Rattle.counters.specs.Counters.{headers, datas, counts, added, between, may_send, update_answer}
use Rattle.counters.proofs.Wrap.{plus-stored, minus_ahead}
use Rattle.counters.proofs.Windows.{header_gate_lem, data_gate_lem, header_update, data_update}
use Rattle.credits.specs.Credits.{room, room_answer}
use Rattle.packets.specs.declared.Packet.{Packet}
use Rattle.packets.specs.declared.Rule.{Rule}
use Rattle.packets.specs.Packets.{rules, no_rule, rule_of, kind_answer, class_answer, length_answer, packet_answer, data_units, need_of}
use Rattle.amounts.specs.Amounts.{Amount, Fits, plus, amount_of, wrapped}

-- ---- sums and differences

-- a stored count grows as the amount does
pub wrapped-added : (a : Amount) (p : Packet) → added (wrapped a) (need_of p) ≡ wrapped (plus a (amount_of p))
unfolding added wrapped need_of
wrapped-added a p = rw (plus-stored 256 (omega arith) a.h 1, plus-stored 4096 (omega arith) a.d (data_units p))

-- what lies between two stored counts less than a lap apart is what lies between the amounts
pub wrapped-between : (a b : Amount) → Fits b a → a.h - b.h < 256 → a.d - b.d < 4096
    → between (wrapped a) (wrapped b) ≡ counts (headers (a.h - b.h)) (datas (a.d - b.d))
unfolding between wrapped
wrapped-between a b f h d =
    rw (minus_ahead 256 (omega arith) a.h b.h f.h h, minus_ahead 4096 (omega arith) a.d b.d f.d d)

pub wrapped-d : (a : Amount) → (wrapped a).d.0 < 4096
unfolding wrapped
wrapped-d a = mod-lt a.d (omega arith)

-- ---- the gate, where the limit lies at most half the range ahead

module _ (limit consumed : Amount) (p : Packet) (below : Fits consumed limit) (near : limit.h - consumed.h ≤ 128)
    (close : limit.d - consumed.d ≤ 2048) (few : data_units p < 2048) where
  -- it is the plain test on amounts
  gate-plain : may_send (wrapped limit) (wrapped consumed) (need_of p)
      ≡ (leb (consumed.h + 1) limit.h && leb (consumed.d + data_units p) limit.d)
  unfolding may_send wrapped need_of
  gate-plain =
      rw (
        header_gate_lem limit.h consumed.h 1 below.h near (omega arith),
        data_gate_lem limit.d consumed.d (data_units p) below.d close few,
      )

  pub gate_fits : may_send (wrapped limit) (wrapped consumed) (need_of p) ≡ true → Fits (plus consumed (amount_of p)) limit
  gate_fits e =
      let head = leb (consumed.h + 1) limit.h in
      let payload = leb (consumed.d + data_units p) limit.d in
      record {
        h = leb-true (consumed.h + 1) limit.h (and_left head payload (sym gate-plain ∙ e));
        d = leb-true (consumed.d + data_units p) limit.d (and_right head payload (sym gate-plain ∙ e));
      }

  pub fits_gate : Fits (plus consumed (amount_of p)) limit → may_send (wrapped limit) (wrapped consumed) (need_of p) ≡ true
  fits_gate f = rw (gate-plain, le-leb _ _ f.h, le-leb _ _ f.d)

-- ---- what is not refused

-- an update at most 127 header and 2,047 data units ahead
pub update_accepted : (stored new : Amount) → Fits stored new → new.h - stored.h ≤ 127 → new.d - stored.d ≤ 2047
    → update_answer (wrapped stored) (wrapped new) ≡ 0
unfolding update_answer wrapped
update_accepted stored new f h d =
    let a : new.h ≤ stored.h + 127 = omega arith in
    let b : new.d ≤ stored.d + 2047 = omega arith in
    rw (
      header_update new.h stored.h f.h (omega arith),
      data_update new.d stored.d f.d (omega arith),
      le-leb _ _ a,
      le-leb _ _ b,
    )

-- a packet for which there is room
pub room-accepted : (allocated received : Amount) (p : Packet) (marked : Bool) → Fits (plus received (amount_of p)) allocated
    → allocated.h - received.h < 256 → allocated.d - received.d < 4096
    → room_answer (room (wrapped allocated) (wrapped received) marked) (need_of p) ≡ 0
unfolding room_answer need_of
room-accepted allocated received p marked f h d =
    let below : Fits received allocated = record { h = omega (arith, f.h); d = omega (arith, f.d) } in
    let a : 1 ≤ allocated.h - received.h = omega (arith, f.h) in
    let b : data_units p ≤ allocated.d - received.d = omega (arith, f.d) in
    rw (wrapped-between allocated received below h d, le-leb _ _ a, le-leb _ _ b)

-- ---- a packet that is not refused

others : (p : Packet) → packet_answer p ≡ 0 → (class_answer p.kind p.class ≡ 0) × (length_answer (rule_of p.kind) p.length ≡ 0)
unfolding packet_answer
others p e =
    let class = class_answer p.kind p.class in
    let length = length_answer (rule_of p.kind) p.length in
    first_zero class length (first_zero (kind_answer p.kind) (first_of class length) e).1

most_below : (kind : ℕ) → (rule_of kind).most ≤ 1024
unfolding rule_of
most_below kind = leb-true _ 1024 (all_past (λ (r : Rule). leb r.most 1024) rules kind no_rule refl refl)

length_below : (r : Rule) (n : ℕ) → length_answer r n ≡ 0 → n ≤ r.most
length_below r n e =
    by_bool (leb r.least n && leb n r.most) (λ t. leb-true n r.most (and_right (leb r.least n) (leb n r.most) t))
    (λ t. absurd (omega (arith, rw t at e)))

-- it has a class from 0 to 7
pub class-few : (p : Packet) → packet_answer p ≡ 0 → p.class < 8
class-few p e =
    by_bool (ltb 7 p.class) (λ t. absurd (omega (arith, rw t at (others p e).0))) (λ t. omega (arith, ltb-false 7 p.class t))

-- and costs at most 256 data units
pub units-few : (p : Packet) → packet_answer p ≡ 0 → data_units p ≤ 256
unfolding data_units
units-few p e =
    let few = length_below (rule_of p.kind) p.length (others p e).1 in
    by_test (λ n. n ≤ 256) (rule_of p.kind).payload (λ t. omega (arith, few, most_below p.kind)) (λ t. omega arith)
