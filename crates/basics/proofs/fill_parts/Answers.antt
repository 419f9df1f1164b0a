-- `basics::fill_parts` meets its contract. The invariant: the parts passed are written, and behind them stand the old elements.
-- Assumes nothing.
use Rattle.std.proofs.Common.{ℕ, List, ◌≡◌, ◌+◌, ◌-◌, ◌*◌, ◌≤◌, ◌++◌, ◌∙◌, length, map, drop, take, arith, length-append, length-drop}
use Rattle.std.proofs.Math.Nat.{mul-le-mul_left, mul-zero}
use Rattle.std.proofs.lemmas.List.FromFn.{map-range_with_len_more}
use Rattle.std.specs.List.{range_with_len}
use lib.Seq.{length-take-le}
use Rattle.basics.specs.Parts.{joined}
use Rattle.basics.proofs.Parts.{joined-more, part_filled}
use Rattle.basics.proofs.fill_parts.Goals as goal

row_more : {A : Type 0} (v : ℕ → List A) (i : ℕ) → joined (map v (range_with_len 0 (i + 1))) ≡ joined (map v (range_with_len 0 i)) ++ v i
row_more v i = rw (map-range_with_len_more v 0 i i (omega arith), joined-more)

pub loop-i-init : goal.loop-i-init
unfolding joined
loop-i-init g c = λ v h. (omega arith, rw mul-zero)

pub loop-i-preserved : goal.loop-i-preserved
loop-i-preserved g c = λ v h.
    let w = c.args.width in
    let i = c.loop-i.i in
    let done = joined (map v (range_with_len 0 i)) in
    let x = c.put.new.arg3 in
    let at = c.loop-i.invariant v h in
    let within : w * (i + 1) ≤ w * c.args.count = mul-le-mul_left w (omega arith) in
    let room : w * (i + 1) ≤ length c.args.list.now = omega (arith, within, c.requires.room) in
    let one : w * i + w - w * i ≡ w = omega arith in
    let rest : w ≤ length (drop (w * i) c.loop-i.list) = rw length-drop (omega (arith, room, c.loop-i.auto.list)) in
    let lent : length (take (w * i + w - w * i) (drop (w * i) c.loop-i.list)) ≡ w = rw one (length-take-le w (drop (w * i) c.loop-i.list) rest) in
    let same : x ≡ v i = h i _ _ (omega arith) lent c.put.ensures in
    let wide : length x ≡ w = c.put.auto.arg3 ∙ lent in
    let more : joined (map v (range_with_len 0 (i + 1))) ≡ done ++ x = rw same (row_more v i) in (
      rw more (length-append done x ∙ omega (arith, at.0, wide)),
      (part_filled w i done (joined (map v (range_with_len 0 (i + 1)))) c.args.list.now c.loop-i.list x at.0 at.1 more wide room).1,
    )

pub returns : goal.returns
returns g c = λ v h.
    let e : c.loop-i.i ≡ c.args.count = omega arith in
    rw e at (c.loop-i.invariant v h).1
