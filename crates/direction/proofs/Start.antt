-- At the start every direction stands: nothing was sent, and each limit is what the other end gives. And the setup as the other end sees it.
-- Assumes nothing.
use Prim.Native.Nat.{ℕ, ◌+◌, ◌*◌, ◌<◌}
use mathlib.Core.Path.{◌≡◌, refl, sym, ap, ◌∙◌}
use mathlib.Core.Bool.{true, ◌&&◌, true≢false}
use mathlib.Core.List.{[], ◌++◌}
use native.Mathlib.Nat.{le_refl, zero-add, add-zero}
use native.Mathlib.Omega.{arith}
use lib.Dec.{ltb}
use lib.ListN.{length, get_or, take, drop, length-append, length-drop, get_or-append}
use lib.Seq.{length-take-le, get_or-take, get_or-drop, get_or-append-add}
use Rattle.basics.specs.Each.{each}
use Rattle.basics.proofs.Branches.{and_left, and_right}
use Rattle.basics.proofs.Finds.{apart}
use Rattle.basics.proofs.Loops.{each_all}
use Rattle.counters.specs.Wrapped.{minus}
use Rattle.credits.specs.declared.Room.{Room}
use Rattle.store.specs.Store.{empty}
use Rattle.setup.specs.declared.Setup.{Setup}
use Rattle.setup.specs.Setup.{channels, per_end, no_units, within, channel_of, units_at, units_fit, classes_fit, categories_fit, channels_fit, in_range}
use Rattle.setup.proofs.Range.{units_fit_lem, units-slot}
use Rattle.sender.specs.Sender as S
use Rattle.sender.proofs.Arrays.{arrays_start}
use Rattle.sender.proofs.Changes.{queue-start, credit-start}
use Rattle.receiver.specs.Receiver as R
use Rattle.receipts.proofs.Arrays as A
use Rattle.receipts.proofs.Changes.{inbox-start, room-start}
use Rattle.orders.proofs.Orders.{orders-start}
use Rattle.amounts.specs.Amounts.{together, wrapped, load, given, allowed}
use Rattle.amounts.proofs.Given.{advertised-given}
use Rattle.amounts.proofs.Loads.{fits_refl}
use Rattle.traffic.specs.Traffic.{forth_end, acks_end, updates_end}
use Rattle.direction.specs.Direction.{Past, Waits, Sending, Crediting, Receiving, Rooming, Direction, Facing}

-- ---- the direction at the start

-- nothing was sent: each limit is what the other end gives
abbrev pub no_past : Setup → Past
no_past link = record { accepted = []; sent = []; acked = 0; got = 0; taken = []; limit = given link }

-- so what is allocated is what the receiving end gives
allowed-start : (link : Setup) (slot : ℕ) → allowed link [] slot ≡ given link slot
unfolding allowed load together
allowed-start link slot = rw (add-zero (given link slot).h, add-zero (given link slot).d)

waits_start : (link : Setup) (channel : ℕ) → Waits link channel [] [] empty
waits_start link channel = record { bound = omega arith; belong = refl; orders = orders-start }

module _ (link : Setup) where
  sending-start : Sending link [] [] 0 (S.start_of link)
  unfolding S.start_of minus
  sending-start =
      record {
        next_is = refl;
        acked_is = refl;
        buffer_is = refl;
        buffer_len = refl;
        replay_in_lem = λ i e. apart i e;
        count_fits = omega arith;
        known = refl;
        formed = refl;
        queue = λ channel h. rw (queue-start link channel) (waits_start link channel);
        few = λ channel c h. rw (queue-start link channel) (omega arith);
        small = λ channel h. rw (queue-start link channel) refl;
      }

  crediting-start : in_range link ≡ true → Crediting link [] (given link) (S.start_of link)
  unfolding load together wrapped
  crediting-start ok =
      record {
        limit_is = λ slot h. rw (credit-start link slot) (advertised-given link ok slot h);
        consumed_is = λ slot h. rw (credit-start link slot);
        within = λ slot. record { h = omega arith; d = omega arith };
      }

  module _ (other : Setup) where
    receiving-start : Receiving link [] [] 0 (R.start_of other)
    unfolding R.start_of
    receiving-start =
        record {
          next_is = refl;
          inbox = λ channel h. rw (inbox-start other channel) (waits_start link channel);
          known = refl;
          marks = λ slot h e. absurd (true≢false (sym e ∙ ap (λ (m : Room). m.marked) (room-start other slot h)));
        }

    module _ (f : Facing link other) where
      rooming-start : Rooming link [] [] (R.start_of other)
      unfolding load together wrapped
      rooming-start =
          record {
            allocated_is = λ slot h. rw (room-start other slot h, f.far slot h, allowed-start link slot) (advertised-given link f.here slot h);
            received_is = λ slot h. rw (room-start other slot h);
          }

      pub direction_start : length link.units ≡ 24 → length other.units ≡ 24 → Direction link (no_past link) (S.start_of link) [] (R.start_of other) []
      direction_start long long-other =
          record {
            s_arrays = arrays_start link long;
            r_arrays = A.arrays_start other long-other;
            numbers = record { low = omega arith; mid = omega arith; high = omega arith };
            sending = sending-start;
            crediting = crediting-start f.here;
            receiving = receiving-start;
            rooming = rooming-start;
            forth_ok = forth_end;
            acks_ok = acks_end (le_refl 0);
            updates_ok = updates_end {lo = given link} {hi = allowed link []} (λ slot. rw (allowed-start link slot) (fits_refl (given link slot)));
          }

-- ---- the setup as the other end sees it

pub facing_swap : {link other : Setup} → Facing link other → Facing other link
facing_swap f =
    record {
      here = f.there;
      there = f.here;
      n_same = sym f.n_same;
      classes_same = sym f.classes_same;
      near = f.far;
      far = f.near;
    }

module _ (link : Setup) where
  -- its own units first
  abbrev turned : Setup
  turned = record { n = link.n; classes = link.classes; units = drop per_end link.units ++ take per_end link.units }

  module _ (long : length link.units ≡ 24) where
    length-far : length (drop per_end link.units) ≡ per_end
    length-far = rw (length-drop per_end link.units, long)

    pub length-turned : length (drop per_end link.units ++ take per_end link.units) ≡ 24
    length-turned = rw (length-append, length-far, length-take-le per_end link.units (omega arith))

    module _ (slot : ℕ) (h : slot < per_end) where
      first_turned : get_or turned.units slot no_units ≡ get_or link.units (per_end + slot) no_units
      first_turned =
          get_or-append (drop per_end link.units) (take per_end link.units) no_units slot (omega (arith, length-far))
          ∙ get_or-drop per_end link.units slot no_units

      second_turned : get_or turned.units (per_end + slot) no_units ≡ get_or link.units slot no_units
      second_turned =
          rw length-far at (get_or-append-add (drop per_end link.units) (take per_end link.units) slot no_units)
          ∙ get_or-take per_end link.units slot no_units h

  module _ (ok : in_range link ≡ true) where
    -- the units of an end fit as those that it has them from
    end_fits : (end from : ℕ) → end < 2 → from < 2
        → ((slot : ℕ) → slot < per_end → get_or turned.units (per_end * end + slot) no_units ≡ get_or link.units (per_end * from + slot) no_units)
        → channels_fit turned end ≡ true
    unfolding channels_fit categories_fit
    end_fits end from h k same =
        each_all channels (λ channel. categories_fit turned end channel)
        (λ channel i. each_all 3 (λ category. units_fit (ltb channel link.n) (units_at turned end channel category))
        (λ category j.
        let e : units_at turned end channel category ≡ units_at link from channel category
        = units-slot turned end channel category h i j ∙ same (3 * channel + category) (omega arith) ∙ sym (units-slot link from channel category k i j) in
        rw e (units_fit_lem link ok from channel category k i j)))

    module _ (long : length link.units ≡ 24) where
      range_turned : in_range turned ≡ true
      unfolding in_range classes_fit channel_of each
      range_turned =
          let ends = each 2 (λ end. channels_fit link end) in
          let n-fits = and_left (within 1 channels link.n) (classes_fit link && ends) ok in
          let classes-fit = and_left (classes_fit link) ends (and_right (within 1 channels link.n) (classes_fit link && ends) ok) in
          rw (
            n-fits,
            classes-fit,
            end_fits 0 1 (omega arith) (omega arith) (λ slot h. rw (zero-add slot) (first_turned long slot h)),
            end_fits 1 0 (omega arith) (omega arith) (λ slot h. rw (zero-add slot) (second_turned long slot h)),
          )

      pub facing_turned : Facing link (record { n = link.n; classes = link.classes; units = drop per_end link.units ++ take per_end link.units })
      facing_turned =
          record {
            here = ok;
            there = range_turned;
            n_same = refl;
            classes_same = refl;
            near = λ slot h. sym (second_turned long slot h);
            far = first_turned long;
          }
