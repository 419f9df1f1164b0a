-- An end whose two directions hold is in shape, rule by rule: answer 10 is never given.
-- The end sends in the first direction and receives in the second. Assumes nothing.
use Rattle.std.specs.Prelude.{Some, None, Option, ℕ}
use Prim.Native.Nat.{ℕ, ◌+◌, ◌-◌, ◌*◌, ◌%◌, ◌<◌}
use mathlib.Core.Path.{◌≡◌, refl, ap}
use mathlib.Core.Bool.{true}
use mathlib.Core.List.{List}
use native.Mathlib.Omega.{arith}
use native.Mathlib.Nat.{zero-add}
use borrow.Author.Tests.{le-leb, lt-ltb, eq-eqb}
use lib.ListN.{length}
use Rattle.basics.proofs.All.{all_drop, all_weaker}
use Rattle.basics.proofs.Each.{by_bool}
use Rattle.basics.proofs.Loops.{each_all}
use Rattle.counters.specs.Wrapped.{plus}
use Rattle.packets.specs.declared.Packet.{Packet}
use Rattle.packets.specs.declared.Category.{Category}
use Rattle.packets.specs.declared.Category.TheVariants.{Posted, NonPosted, Completion}
use Rattle.packets.specs.Packets.{number_of, data_together, slot_of}
use Rattle.packets.proofs.Numbers.{number_below}
use Rattle.store.specs.declared.Packets.{Packets}
use Rattle.store.specs.Store.{held, of_category}
use Rattle.store.proofs.Categories.{headers-counted}
use Rattle.line.specs.declared.Slot.{Slot}
use Rattle.setup.specs.declared.Setup.{Setup}
use Rattle.setup.specs.Setup.{channels, per_end, in_range, channel_of, units_at}
use Rattle.setup.proofs.Range.{units-slot}
use Rattle.sender.specs.declared.Sender.{Sender}
use Rattle.sender.specs.Sender.{queue_at, credit_at}
use Rattle.sender.specs.Sources.{buffer_bound}
use Rattle.sender.proofs.Slots.{slot_below}
use Rattle.receiver.specs.declared.Receiver.{Receiver}
use Rattle.receiver.specs.Receiver.{inbox_at, room_at}
use Rattle.ends.specs.Ends.{end}
use Rattle.shape.specs.Shape.{queue_bound, inbox_bound, within_bounds, is_on, all_on, in_place, well_formed, all_formed, frames_fit, credit_fits, room_fits, sent_fit, received_fit, numbers_fit, numbers_run, place_in, replay_in, mark_in_use, marks_in_use, adds_up, category_adds_up, channel_adds_up, room_adds_up, in_shape}
use Rattle.shape.proofs.Rules.{in_shape_whole}
use Rattle.amounts.specs.Amounts.{Amount, together, load, allowed}
use Rattle.amounts.proofs.Wrapped.{wrapped-between, wrapped-d}
use Rattle.amounts.proofs.Given.{given_is}
use Rattle.direction.specs.Direction.{Past, arrived, belongs, Waits, Direction, Facing}
use Rattle.traffic.proofs.Range.{wraps}
use Rattle.direction.proofs.Waits.{belongs-on, belongs-formed}
use Rattle.direction.proofs.Bounds.{buffer_few, arrived_parts, arrived_fits, units_small}

-- ---- packets that wait in a queue or buffer of a channel

module _ {link : Setup} {channel : ℕ} {from out : List Packet} {q : Packets} (w : Waits link channel from out q) where
  waits_on : all_on link channel q ≡ true
  waits_on = all_weaker (belongs link channel) (is_on link channel) (belongs-on link channel) (held q) w.belong

  waits_formed : all_formed q ≡ true
  waits_formed = all_weaker (belongs link channel) well_formed (belongs-formed link channel) (held q) w.belong

-- ---- the half that sends

module _ {link : Setup} {g : Past} {s : Sender} {forth back : List Slot} {r : Receiver} (i : Direction link g s forth r back) where
  queue_bound_lem : (channel : ℕ) → channel < channels → queue_bound (queue_at s channel) ≡ true
  unfolding queue_bound
  queue_bound_lem channel h =
      rw (
        le-leb _ _ (i.sending.queue channel h).bound,
        le-leb _ _ (i.sending.few channel Posted h),
        le-leb _ _ (i.sending.few channel NonPosted h),
        le-leb _ _ (i.sending.few channel Completion h),
      )

  buffer_formed : all_formed s.buffer ≡ true
  buffer_formed = rw i.sending.buffer_is (all_drop well_formed g.acked g.sent i.sending.formed)

  credit_fits_lem : (slot : ℕ) → slot < per_end → credit_fits (credit_at s slot) ≡ true
  credit_fits_lem slot h =
      rw (
        i.crediting.limit_is slot h,
        i.crediting.consumed_is slot h,
        lt-ltb _ _ (wrapped-d (g.limit slot)),
        lt-ltb _ _ (wrapped-d (load link g.sent slot)),
      )

  sent_fits : sent_fit s ≡ true
  unfolding sent_fit
  sent_fits =
      rw (
        each_all per_end (λ slot. credit_fits (credit_at s slot)) credit_fits_lem,
        i.sending.next_is,
        i.sending.acked_is,
        wraps (length g.sent),
        wraps (g.acked + 4095),
        le-leb _ _ i.sending.count_fits,
      )

  -- from the last acknowledged number, one more and those in the buffer further, is the next to be given
  numbers_run_lem : numbers_run s ≡ true
  unfolding numbers_run plus
  numbers_run_lem =
      let runs : (((g.acked + 4095) % 4096 + 1) % 4096 + (length g.sent - g.acked)) % 4096 ≡ length g.sent % 4096 = omega (arith, i.numbers) in
      rw (i.sending.acked_is, i.sending.next_is, i.sending.buffer_len) (eq-eqb _ _ runs)

  replay_in_lem : replay_in s ≡ true
  unfolding replay_in
  replay_in_lem = go s.replay.at refl
    where
      go : (at : Option ℕ) → s.replay.at ≡ at → place_in at s.buffer.len ≡ true
      go (Some k) e = lt-ltb k s.buffer.len (i.sending.replay_in_lem k e)
      go None e = refl

-- ---- the half that receives

module _ {link : Setup} {g : Past} {s : Sender} {forth back : List Slot} {r : Receiver} (i : Direction link g s forth r back) where
  room_fits_lem : (slot : ℕ) → slot < per_end → room_fits (room_at r slot) ≡ true
  room_fits_lem slot h =
      rw (
        i.rooming.allocated_is slot h,
        i.rooming.received_is slot h,
        lt-ltb _ _ (wrapped-d (allowed link g.taken slot)),
        lt-ltb _ _ (wrapped-d (load link (arrived g) slot)),
      )

  received_fits : received_fit r ≡ true
  unfolding received_fit
  received_fits =
      rw (
        each_all per_end (λ slot. room_fits (room_at r slot)) room_fits_lem,
        i.receiving.next_is,
        wraps g.got,
      )

  mark_in_use_lem : (slot : ℕ) → slot < per_end → mark_in_use link.n slot (room_at r slot) ≡ true
  mark_in_use_lem slot h =
      by_bool (room_at r slot).marked
      (λ t. rw (t, lt-ltb slot (3 * link.n) (i.receiving.marks slot h t)))
      (λ t. rw t)

  marks_in_use_lem : marks_in_use link.n r ≡ true
  unfolding marks_in_use
  marks_in_use_lem = each_all per_end (λ slot. mark_in_use link.n slot (room_at r slot)) mark_in_use_lem

  -- what is free and what waits are together what the sender knows to be given
  room_adds_up_lem : in_range link ≡ true → (channel : ℕ) (c : Category) → channel < channels
      → adds_up (room_at r (slot_of channel c)) (of_category c (held (inbox_at r channel))) (units_at link 1 channel (number_of c)) ≡ true
  unfolding adds_up allowed together
  room_adds_up_lem ok channel c h =
      let k = slot_of channel c in
      let small : k < per_end = slot_below channel c h in
      let waiting = of_category c (held (inbox_at r channel)) in
      let whole = allowed link g.taken k in
      let used = load link (arrived g) k in
      let fits = arrived_fits i channel c h in
      let parts = arrived_parts i channel c h in
      let is = given_is link channel c h in
      let units = units_small link ok channel c h in
      let parts-h = ap (λ (a : Amount). a.h) parts in
      let parts-d = ap (λ (a : Amount). a.d) parts in
      let sum-h : whole.h - used.h + length waiting ≡ (units_at link 1 channel (number_of c)).header
      = omega (arith, parts-h, fits.h, ap (λ (a : Amount). a.h) is, headers-counted waiting) in
      let sum-d : whole.d - used.d + data_together waiting ≡ (units_at link 1 channel (number_of c)).payload
      = omega (arith, parts-d, fits.d, ap (λ (a : Amount). a.d) is) in
      rw (
        i.rooming.allocated_is k small,
        i.rooming.received_is k small,
        wrapped-between whole used fits (omega (arith, parts-h, units.0)) (omega (arith, parts-d, units.1)),
        eq-eqb _ _ sum-h,
        eq-eqb _ _ sum-d,
      )

-- ---- both halves of one end

-- the setup as this end sees it: a class is on the same channel, and its own units are what the other end's setup gives
module _ {link other : Setup} (f : Facing link other) where
  pub channel_same : (class : ℕ) → channel_of other class ≡ channel_of link class
  unfolding channel_of
  channel_same class = rw f.classes_same

  pub units-same : (channel : ℕ) (c : Category) → channel < channels → units_at link 0 channel (number_of c) ≡ units_at other 1 channel (number_of c)
  units-same channel c h =
      let own = units-slot link 0 channel (number_of c) (omega arith) h (number_below c) in
      let given = units-slot other 1 channel (number_of c) (omega arith) h (number_below c) in
      rw (own, given, zero-add) (f.near (slot_of channel c) (slot_below channel c h))

module _ {link other : Setup} {g h : Past} {s t : Sender} {forth back : List Slot} {r q : Receiver} (f : Facing link other)
    (i : Direction link g s forth q back) (j : Direction other h t back r forth) where
  bounds : within_bounds s r ≡ true
  unfolding within_bounds
  bounds =
      rw (
        each_all channels (λ channel. queue_bound (queue_at s channel)) (queue_bound_lem i),
        le-leb s.buffer.len buffer_bound (buffer_few i),
        each_all channels (λ channel. inbox_bound (inbox_at r channel)) (λ channel z. le-leb _ _ (j.receiving.inbox channel z).bound),
      )

  -- the other end puts a class on the same channel
  inbox-on : (channel : ℕ) → channel < channels → all_on link channel (inbox_at r channel) ≡ true
  inbox-on channel z =
      all_weaker (is_on other channel) (is_on link channel) (λ p e. rw (channel_same f p.class) at e) (held (inbox_at r channel))
      (waits_on (j.receiving.inbox channel z))

  in_place_lem : in_place link s r ≡ true
  unfolding in_place
  in_place_lem =
      rw (
        each_all channels (λ channel. all_on link channel (queue_at s channel)) (λ channel z. waits_on (i.sending.queue channel z)),
        each_all channels (λ channel. all_on link channel (inbox_at r channel)) inbox-on,
      )

  frames_fit_lem : frames_fit s r ≡ true
  unfolding frames_fit
  frames_fit_lem =
      rw (
        each_all channels (λ channel. all_formed (queue_at s channel)) (λ channel z. waits_formed (i.sending.queue channel z)),
        buffer_formed i,
        each_all channels (λ channel. all_formed (inbox_at r channel)) (λ channel z. waits_formed (j.receiving.inbox channel z)),
      )

  numbers_fit_lem : numbers_fit s r ≡ true
  unfolding numbers_fit
  numbers_fit_lem = rw (sent_fits i, received_fits j)

  category_adds_up_lem : (channel : ℕ) (c : Category) → channel < channels → category_adds_up link r channel c ≡ true
  unfolding category_adds_up
  category_adds_up_lem channel c z = rw (units-same f channel c z) (room_adds_up_lem j f.there channel c z)

  adds_up_lem : room_adds_up link r ≡ true
  unfolding room_adds_up
  adds_up_lem =
      each_all channels (λ channel. channel_adds_up link r channel)
      (λ channel z. rw (category_adds_up_lem channel Posted z, category_adds_up_lem channel NonPosted z, category_adds_up_lem channel Completion z))

  pub shaped : in_shape (end link s r) ≡ true
  shaped =
      in_shape_whole (end link s r)
      record {
        setup = f.here;
        bounds = bounds;
        place = in_place_lem;
        frames = frames_fit_lem;
        numbers = numbers_fit_lem;
        run = numbers_run_lem i;
        replay = replay_in_lem i;
        marks = rw f.n_same at (marks_in_use_lem j);
        room = adds_up_lem;
      }
