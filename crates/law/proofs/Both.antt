-- Both directions between an end that acts and the other end, on the line to it and the line from it. What the pair's shape asks follows.
-- Assumes nothing.
use Prim.Native.Nat.{◌≤◌}
use mathlib.Core.Path.{◌≡◌, refl}
use mathlib.Core.Bool.{true}
use mathlib.Core.List.{List, []}
use borrow.Author.Tests.{le-leb}
use lib.ListN.{length}
use Rattle.packets.specs.declared.Packet.{Packet}
use Rattle.setup.specs.declared.Setup.{Setup}
use Rattle.line.specs.declared.Line.{Line}
use Rattle.line.specs.Line.{on_line}
use Rattle.sender.specs.declared.Sender.{Sender}
use Rattle.receiver.specs.declared.Receiver.{Receiver}
use Rattle.ends.specs.declared.End.{End}
use Rattle.ends.specs.Ends.{end}
use Rattle.shape.specs.Shape.{in_shape}
use Rattle.pairs.specs.Steps.{line_fits}
use Rattle.traffic.proofs.Range.{frames_fit_lem}
use Rattle.direction.specs.Direction.{Past, Direction, Facing}
use Rattle.direction.proofs.Start.{facing_swap}
use Rattle.direction.proofs.Shaped.{shaped}
use Rattle.law.proofs.Pasts.{Grows, grows_none}

-- a line within its bound
pub record Fitting (l : Line) : Type 0 where
  pub long : length l.slots ≡ 16
  pub room : l.len ≤ 16

-- `near` and `far` are the setups of the end that acts, `me`, and of the other, `it`; `out` is the past of the direction in which `me` sends, `back`
-- that of the direction in which it receives
pub record Both (near far : Setup) (out back : Past) (me it : End) (to from : Line) : Type 0 where
  pub me_is : me.setup ≡ near
  pub it_is : it.setup ≡ far
  pub facing : Facing me.setup it.setup
  pub to_fits : Fitting to
  pub from_fits : Fitting from
  pub sends : Direction me.setup out me.sender (on_line from) it.receiver (on_line to)
  pub receives : Direction it.setup back it.sender (on_line to) me.receiver (on_line from)

-- ---- the same, seen from the other end

pub both_swap : {near far : Setup} {out back : Past} {me it : End} {to from : Line} → Both near far out back me it to from → Both far near back out it me from to
both_swap b =
    record { me_is = b.it_is; it_is = b.me_is; facing = facing_swap b.facing; to_fits = b.from_fits; from_fits = b.to_fits; sends = b.receives; receives = b.sends }

-- ---- other halves of the end that acts, and other lines

pub both-with : {near far : Setup} {out back out' back' : Past} {me it : End} {to from to' from' : Line} {s : Sender} {r : Receiver}
    → Both near far out back me it to from → Fitting to' → Fitting from'
    → Direction me.setup out' s (on_line from') it.receiver (on_line to')
    → Direction it.setup back' it.sender (on_line to') r (on_line from')
    → Both near far out' back' (end me.setup s r) it to' from'
both-with b to_fits from_fits sends receives =
    record { me_is = b.me_is; it_is = b.it_is; facing = b.facing; to_fits = to_fits; from_fits = from_fits; sends = sends; receives = receives }

-- ---- the shape of the pair

module _ {near far : Setup} {out back : Past} {me it : End} {to from : Line} (b : Both near far out back me it to from) where
  pub end_in_shape : in_shape me ≡ true
  end_in_shape = shaped b.facing b.sends b.receives

  -- packets of the one direction and link messages of the other are on the line
  pub line_fits_lem : line_fits me.setup.n to ≡ true
  unfolding line_fits
  line_fits_lem =
      rw (
        le-leb to.len 16 b.to_fits.room,
        frames_fit_lem b.receives.sending.formed b.receives.forth_ok b.sends.acks_ok b.sends.updates_ok,
      )

-- ---- what a step makes of it: `accepted` are accepted and `taken` are taken at the end that acts

pub record Next (near far : Setup) (out back : Past) (accepted taken : List Packet) (me it : End) (to from : Line) : Type 0 where
  pub out' : Past
  pub back' : Past
  pub out_grows : Grows out accepted [] out'
  pub back_grows : Grows back [] taken back'
  pub both : Both near far out' back' me it to from

-- nothing is accepted and nothing is taken
pub nothing_new : {near far : Setup} {out back : Past} {me it : End} {to from : Line} (out' back' : Past) → out'.accepted ≡ out.accepted → back'.accepted ≡ back.accepted
    → back'.taken ≡ back.taken → out'.taken ≡ out.taken → Both near far out' back' me it to from → Next near far out back [] [] me it to from
nothing_new out' back' a b c d both = record { out' = out'; back' = back'; out_grows = grows_none a d; back_grows = grows_none b c; both = both }

-- nor does anything change
pub unchanged : {near far : Setup} {out back : Past} {me it : End} {to from : Line} → Both near far out back me it to from → Next near far out back [] [] me it to from
unchanged {out} {back} b = nothing_new out back refl refl refl refl b
