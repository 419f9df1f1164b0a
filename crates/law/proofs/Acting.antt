-- Submit, Take, Timer and Refresh at one end keep both directions. Submit's packet is accepted, Take's is the oldest of its category.
-- Assumes nothing.
use Rattle.std.specs.Prelude.{Some, None}
use Prim.Native.Nat.{ℕ, ◌<◌, ◌≤◌}
use mathlib.Core.Path.{◌≡◌, refl, sym}
use mathlib.Core.Logic.{◌⊎◌, ◌≢◌}
use mathlib.Core.Bool.{true, not}
use mathlib.Core.List.{[], ◌∷◌, append-nil}
use native.Mathlib.Omega.{arith}
use lib.ListN.{length, take}
use Rattle.basics.specs.Lists.{all}
use Rattle.basics.proofs.Filters.{filter_first}
use Rattle.packets.specs.declared.Packet.{Packet}
use Rattle.packets.specs.declared.Category.{Category}
use Rattle.packets.specs.declared.Category.TheVariants.{Posted, NonPosted, Completion}
use Rattle.packets.specs.Packets.{number_of, numbered, category_of, packet_answer, data_units}
use Rattle.store.specs.Store.{held, at, no_packet, is_of, of_category}
use Rattle.line.specs.declared.Line.{Line}
use Rattle.setup.specs.Setup.{channels, units_at}
use Rattle.sender.specs.Sender as S
use Rattle.receiver.specs.Receiver as R
use Rattle.delivery.specs.Delivery.{handed_out}
use Rattle.ends.specs.declared.End.{End}
use Rattle.ends.specs.Ends.{end, channel_for, refresh_of}
use Rattle.amounts.specs.Amounts.{given, slot_for}
use Rattle.amounts.proofs.Given.{given_is, channel_below}
use Rattle.setup.specs.declared.Setup.{Setup}
use Rattle.direction.specs.Direction.{Past, accepting, taking}
use Rattle.direction.proofs.Submitting.{submit-keeps}
use Rattle.direction.proofs.Taking.{take-keeps}
use Rattle.direction.proofs.Hearing.{timer-keeps}
use Rattle.direction.proofs.Answering.{refresh-keeps}
use Rattle.law.specs.History.{oldest_of}
use Rattle.law.proofs.Pasts.{grows_none}
use Rattle.law.proofs.Both.{Both, both-with, Next, nothing_new}

module _ {near far : Setup} {out back : Past} {me it : End} {to from : Line} (b : Both near far out back me it to from) where
  -- ---- Submit: refused, or accepted

  pub submit-next : (p : Packet) → packet_answer p ≡ 0 → data_units p ≤ (units_at me.setup 1 (channel_for me p) (number_of (category_of p))).payload
      → length (of_category (category_of p) (held (S.queue_at me.sender (channel_for me p)))) < 8
      → Next near far out back (p ∷ []) [] (end me.setup (S.submitted me.sender (channel_for me p) p) me.receiver) it to from
  submit-next p rules enough room =
      let here = channel_below me.setup b.facing.here p rules in
      let fits : data_units p ≤ (given me.setup (slot_for me.setup p)).d = rw (given_is me.setup (channel_for me p) (category_of p) here) enough in
      record {
        out' = accepting out p;
        back' = back;
        out_grows = record { accepted_is = refl; taken_is = sym (append-nil out.taken) };
        back_grows = grows_none refl refl;
        both = both-with b b.to_fits b.from_fits (submit-keeps b.facing.here b.sends p rules fits room) b.receives;
      }

  -- ---- Take: the packet at its place is the oldest of its category

  numbered_is : (c : Category) → numbered (number_of c) ≡ Some c
  numbered_is Posted = refl
  numbered_is NonPosted = refl
  numbered_is Completion = refl

  pub take_next : (channel category place : ℕ) (c : Category) → number_of c ≡ category → channel < me.setup.n → channel < channels
      → place < length (held (R.inbox_at me.receiver channel))
      → is_of c (at (R.inbox_at me.receiver channel) place) ≡ true
      → all (λ p. not (is_of c p)) (take place (held (R.inbox_at me.receiver channel))) ≡ true
      → ((is_of Posted (at (R.inbox_at me.receiver channel) place) ≡ true)
      ⊎ (all (λ p. not (is_of Posted p)) (take place (held (R.inbox_at me.receiver channel))) ≡ true))
      → Next near far out back [] (oldest_of (numbered category) (held (R.inbox_at me.receiver channel)) ∷ [])
      (end me.setup me.sender (handed_out me.receiver channel c place)) it to from
  take_next channel category place c is used here within of-it first in_order =
      let q = held (R.inbox_at me.receiver channel) in
      let oldest : oldest_of (numbered category) q ≡ at (R.inbox_at me.receiver channel) place =
      rw (← is, numbered_is c, filter_first (is_of c) q place no_packet within of-it first) in
      rw oldest
      record {
        out' = out;
        back' = taking back (at (R.inbox_at me.receiver channel) place);
        out_grows = grows_none refl refl;
        back_grows = record { accepted_is = sym (append-nil back.accepted); taken_is = refl };
        both =
            both-with b b.to_fits b.from_fits b.sends
            (take-keeps b.receives channel place c (omega (arith, b.facing.n_same)) here within of-it first in_order);
      }

  -- ---- Timer and Refresh

  pub timer-next : me.sender.buffer.len ≢ 0 → Next near far out back [] [] (end me.setup (S.with_replay me.sender (S.begun me.sender.replay)) me.receiver) it to from
  timer-next some = nothing_new out back refl refl refl refl (both-with b b.to_fits b.from_fits (timer-keeps b.sends some) b.receives)

  pub refresh-next : Next near far out back [] [] (refresh_of me).end it to from
  unfolding refresh_of
  refresh-next =
      nothing_new out back refl refl refl refl
      (both-with b b.to_fits b.from_fits b.sends (rw (← b.facing.n_same) (refresh-keeps b.receives b.facing.there)))
