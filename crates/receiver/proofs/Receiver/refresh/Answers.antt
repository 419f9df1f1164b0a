-- `receiver::Receiver::refresh` meets its contract: the invariant: the rooms of the slots passed are marked, and those behind them are as they were.
-- Assumes nothing.
use Rattle.std.proofs.Common.{rules}
use native.Mathlib.Omega.{arith}
use Prim.Native.Nat.{ℕ, ◌*◌, ◌≤◌, min}
use mathlib.Core.Path.{◌≡◌, ap, ◌∙◌}
use mathlib.Core.List.{List, map}
use lib.ListN.{length, take, get_or, drop_of_length-le}
use lib.Seq.{take_all}
use Rattle.basics.proofs.Each.{by_order_lem}
use Rattle.basics.proofs.Parts.{filled, filled-set}
use Rattle.basics.proofs.Maps.{length_made, made_more}
use Rattle.credits.specs.declared.Room.{Room}
use Rattle.credits.specs.Credits.{none, room_of, marked}
use Rattle.receiver.specs.Receiver.{receiver, refreshed}
use Rattle.receiver.proofs.Receiver.refresh.Goals as goal

-- past the end more is the same
same : (l : List Room) (a b n : ℕ) → length l ≡ n → a ≡ min n b → filled a (map marked (take a l)) l ≡ filled b (map marked (take b l)) l
same l a b n h m =
    by_order_lem b n
    (λ t. let e : a ≡ b = omega arith in rw e)
    (λ (t : n ≤ b).
    rw (
      take_all a l (omega arith),
      take_all b l (omega arith),
      drop_of_length-le l {i = a} (omega arith),
      drop_of_length-le l {i = b} (omega arith),
    ))

pub loop-slot-preserved : goal.loop-slot-preserved
loop-slot-preserved c =
    let long : length c.args.self.rooms ≡ 12 = search rules in
    rw (c.loop-slot.invariant, c.mark.ensures)
    (ap (λ (x : List Room). receiver c.args.self.inboxes x c.args.self.reply)
    (filled-set c.loop-slot.slot (map marked (take c.loop-slot.slot c.args.self.rooms)) c.args.self.rooms (length_made marked c.args.self.rooms c.loop-slot.slot (omega (arith, long))) (marked (get_or c.args.self.rooms c.loop-slot.slot (room_of none))) (room_of none) (omega (arith, long))
    ∙ rw (made_more marked c.args.self.rooms c.loop-slot.slot (room_of none) (omega (arith, long)))))

pub returns : goal.returns
unfolding refreshed
returns c =
    let long : length c.args.self.rooms ≡ 12 = search rules in
    c.loop-slot.invariant ∙ ap (λ (x : List Room). receiver c.args.self.inboxes x c.args.self.reply)
    (same c.args.self.rooms c.loop-slot.slot (3 * c.args.n) 12 long (omega (arith, c.min-used.ensures)))
