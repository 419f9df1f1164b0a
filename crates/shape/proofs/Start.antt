-- An end that was started from a setup in range is in shape.
-- Assumes nothing.
use Prim.Native.Nat.{ℕ, ◌+◌, ◌-◌, ◌%◌, ◌≤◌, ◌<◌}
use mathlib.Core.Path.{◌≡◌, refl, ap, ◌∙◌}
use mathlib.Core.Bool.{true}
use mathlib.Core.List.{[]}
use native.Mathlib.Nat.{zero-add}
use native.Mathlib.Omega.{arith}
use lib.ListN.{get_or, take, get_or-replicate, get_or-map}
use lib.Seq.{get_or-take}
use borrow.Author.Tests.{lt-ltb, eq-eqb}
use Rattle.basics.specs.Each.{each}
use Rattle.basics.proofs.Loops.{each_all}
use Rattle.counters.specs.Counters.{between}
use Rattle.counters.specs.Wrapped.{minus, plus}
use Rattle.credits.specs.Credits.{advertised}
use Rattle.packets.specs.declared.Category.{Category}
use Rattle.packets.specs.declared.Category.TheVariants.{Posted, NonPosted, Completion}
use Rattle.packets.specs.Packets.{number_of, slot_of}
use Rattle.store.specs.Store.{empty}
use Rattle.packets.proofs.Numbers.{number_below}
use Rattle.setup.specs.declared.Setup.{Setup}
use Rattle.setup.specs.declared.Units.{Units}
use Rattle.setup.specs.Setup.{channels, per_end, no_units, in_range}
use Rattle.setup.proofs.Range.{units-slot, units_small}
use Rattle.sender.specs.Sender as S
use Rattle.sender.proofs.Changes.{credit-start}
use Rattle.sender.proofs.Slots.{slot_below}
use Rattle.receiver.specs.Receiver as R
use Rattle.ends.specs.Ends.{end_of}
use Rattle.shape.specs.Shape.{queue_bound, within_bounds, in_place, frames_fit, credit_fits, room_fits, sent_fit, received_fit, numbers_fit, numbers_run, replay_in, mark_in_use, marks_in_use, adds_up, category_adds_up, channel_adds_up, room_adds_up, in_shape}
use Rattle.shape.proofs.Rules.{in_shape_whole}

module _ (link : Setup) (ok : in_range link ≡ true) where
  -- ---- what stands at a slot at the start

  room_starts : (slot : ℕ) → slot < per_end → R.room_at (R.start_of link) slot ≡ R.room_for (get_or link.units slot no_units)
  unfolding R.start_of advertised
  room_starts slot h = get_or-map R.room_for (take per_end link.units) slot no_units ∙ ap R.room_for (get_or-take per_end link.units slot no_units h)

  inbox_starts : (channel : ℕ) → channel < channels → R.inbox_at (R.start_of link) channel ≡ empty
  unfolding R.start_of
  inbox_starts channel h = get_or-replicate channels channel empty empty h

  -- ---- the queues and buffers are empty

  bounds_start : within_bounds (S.start_of link) (R.start_of link) ≡ true
  unfolding within_bounds queue_bound each S.start_of R.start_of
  bounds_start = refl

  place-start : in_place link (S.start_of link) (R.start_of link) ≡ true
  unfolding in_place each S.start_of R.start_of
  place-start = refl

  frames_start : frames_fit (S.start_of link) (R.start_of link) ≡ true
  unfolding frames_fit each S.start_of R.start_of
  frames_start = refl

  run-start : numbers_run (S.start_of link) ≡ true
  unfolding numbers_run S.start_of plus minus
  run-start = refl

  replay-start : replay_in (S.start_of link) ≡ true
  unfolding replay_in S.start_of
  replay-start = refl

  -- ---- a stored number leaves its range: none does

  credit_fits_lem : (slot : ℕ) → slot < per_end → credit_fits (S.credit_at (S.start_of link) slot) ≡ true
  unfolding advertised
  credit_fits_lem slot h =
      let small : (get_or link.units (per_end + slot) no_units).payload < 4096 = omega (arith, (units_small link ok 1 slot (omega arith) h).1) in
      rw (credit-start link slot, lt-ltb _ _ small)

  room_fits_lem : (slot : ℕ) → slot < per_end → room_fits (R.room_at (R.start_of link) slot) ≡ true
  unfolding advertised
  room_fits_lem slot h =
      let small : (get_or link.units slot no_units).payload < 4096 = omega (arith, rw zero-add at (units_small link ok 0 slot (omega arith) h).1) in
      rw (room_starts slot h, lt-ltb _ _ small)

  numbers-start : numbers_fit (S.start_of link) (R.start_of link) ≡ true
  unfolding numbers_fit sent_fit received_fit S.start_of R.start_of minus
  numbers-start =
      rw (
        each_all per_end (λ slot. credit_fits (S.credit_at (S.start_of link) slot)) credit_fits_lem,
        each_all per_end (λ slot. room_fits (R.room_at (R.start_of link) slot)) room_fits_lem,
      )

  -- ---- a mark stands on an unused channel: none stands at all

  marks-start : marks_in_use link.n (R.start_of link) ≡ true
  unfolding marks_in_use
  marks-start = each_all per_end (λ slot. mark_in_use link.n slot (R.room_at (R.start_of link) slot)) (λ slot h. rw (room_starts slot h))

  -- ---- free room and the units waiting: all is free, and nothing waits

  all-free : (u : Units) → u.header ≤ 16 → u.payload ≤ 2047 → adds_up (R.room_for u) [] u ≡ true
  unfolding adds_up advertised between minus
  all-free u h k =
      let a : u.header < 256 = omega arith in
      rw (
        lt-ltb _ _ a,
        eq-eqb ((u.header + (256 - 0 % 256)) % 256 + 0) u.header (omega arith),
        eq-eqb ((u.payload + (4096 - 0 % 4096)) % 4096 + 0) u.payload (omega arith),
      )

  category_starts : (channel : ℕ) (c : Category) → channel < channels → category_adds_up link (R.start_of link) channel c ≡ true
  unfolding category_adds_up
  category_starts channel c h =
      let k : slot_of channel c < per_end = slot_below channel c h in
      let small = rw zero-add at (units_small link ok 0 (slot_of channel c) (omega arith) k) in
      rw (room_starts (slot_of channel c) k, units-slot link 0 channel (number_of c) (omega arith) h (number_below c), zero-add, inbox_starts channel h)
      (all-free (get_or link.units (slot_of channel c) no_units) small.0 small.1)

  room-start : room_adds_up link (R.start_of link) ≡ true
  unfolding room_adds_up
  room-start =
      each_all channels (λ channel. channel_adds_up link (R.start_of link) channel)
      (λ channel h. rw (category_starts channel Posted h, category_starts channel NonPosted h, category_starts channel Completion h))

  pub start-in_shape : in_shape (end_of link) ≡ true
  unfolding end_of
  start-in_shape =
      in_shape_whole (end_of link)
      record {
        setup = ok;
        bounds = bounds_start;
        place = place-start;
        frames = frames_start;
        numbers = numbers-start;
        run = run-start;
        replay = replay-start;
        marks = marks-start;
        room = room-start;
      }
