-- A direction at rest, with nothing on a line, owed, marked or replayed: what was sent is received and acknowledged, and each limit is what the
-- other end allocated. Assumes nothing.
use Rattle.std.specs.Prelude.{None}
use Prim.Native.Nat.{ℕ, ◌*◌, ◌<◌}
use mathlib.Core.Path.{◌≡◌, ◌∙◌}
use mathlib.Core.Bool.{true}
use mathlib.Core.List.{[]}
use native.Mathlib.Omega.{arith}
use lib.ListN.{length}
use lib.Seq.{take-length, drop-length}
use Rattle.basics.proofs.Each.{by_order_lem}
use Rattle.setup.specs.declared.Setup.{Setup}
use Rattle.setup.specs.Setup.{per_end, in_range}
use Rattle.sender.specs.declared.Sender.{Sender}
use Rattle.sender.specs.Sender.{credit_at}
use Rattle.receiver.specs.declared.Receiver.{Receiver}
use Rattle.receiver.specs.declared.Owed.TheVariants as Owed
use Rattle.receiver.specs.Receiver.{room_at, first_marked}
use Rattle.amounts.specs.Amounts.{allowed}
use Rattle.direction.specs.Direction.{Past, arrived, on_the_way, Direction}
use Rattle.quiet.specs.Quiet.{Live}
use Rattle.quiet.proofs.NoGap.{rest-fresh}
use Rattle.quiet.proofs.Told.{rest-told}
use Rattle.quiet.proofs.Shown.{rest-shown, rest_unused}

module _ {link : Setup} {g : Past} {s : Sender} {r : Receiver} (ok : in_range link ≡ true) (i : Direction link g s [] r []) (l : Live 0 link g s [] r [])
    (rests : s.replay.at ≡ None) (none_owed : r.reply.owed ≡ Owed.Nothing) (unmarked : first_marked r ≡ None) where
  -- ---- what was sent

  pub all_received : g.got ≡ length g.sent
  all_received = rest-fresh i l.fresh rests

  pub all-acknowledged : g.acked ≡ length g.sent
  all-acknowledged = rest-told l.told rests none_owed ∙ all_received

  pub all-arrived : arrived g ≡ g.sent
  all-arrived = rw all_received (take-length g.sent)

  pub none-on_the_way : on_the_way g ≡ []
  none-on_the_way = rw all_received (drop-length g.sent)

  pub buffer_empty : s.buffer.len ≡ 0
  buffer_empty = omega (arith, i.sending.buffer_len, all-acknowledged)

  -- the next number to be given is the next to be received
  pub numbers_agree : s.next ≡ r.reply.next_receive
  numbers_agree = rw (i.sending.next_is, i.receiving.next_is, all_received)

  -- ---- what may be sent

  pub limits_agree : (slot : ℕ) → slot < per_end → g.limit slot ≡ allowed link g.taken slot
  limits_agree slot h = by_order_lem slot (3 * link.n) (rest-shown l.shown unmarked slot) (λ past. rest_unused ok i slot past h)

  -- both ends store the same of it
  pub stored_agree : (slot : ℕ) → slot < per_end → (credit_at s slot).limit ≡ (room_at r slot).allocated
  stored_agree slot h = rw (i.crediting.limit_is slot h, i.rooming.allocated_is slot h, limits_agree slot h)
