-- From an accepted setup, after any steps: each direction holds, and its past is what the history accepted at the one end and took at the other.
-- Assumes nothing.
use Prim.Native.Nat.{ℕ, ◌<◌}
use mathlib.Core.Path.{◌≡◌, refl, sym}
use mathlib.Core.Logic.{by_cases}
use mathlib.Core.Bool.{true}
use mathlib.Core.List.{List}
use native.Mathlib.Decide.{ℕ_discrete}
use native.Mathlib.Omega.{arith}
use lib.ListN.{length}
use Rattle.packets.specs.declared.Packet.{Packet}
use Rattle.packets.specs.declared.Category.{Category}
use Rattle.packets.specs.Packets.{number_of}
use Rattle.setup.specs.declared.Setup.{Setup}
use Rattle.setup.specs.Setup.{channels, in_range, channel_of, units_at}
use Rattle.line.specs.Line.{on_line}
use Rattle.line.proofs.OnLine.{length-empty}
use Rattle.ends.specs.Ends.{end_of}
use Rattle.script.specs.declared.Step.{Step}
use Rattle.pairs.specs.declared.Pair.{Pair}
use Rattle.pairs.specs.Pairs.{end_at, line_at, other, swapped, pair_of}
use Rattle.amounts.specs.Amounts.{on}
use Rattle.direction.specs.Direction.{Past, Direction, Facing}
use Rattle.direction.proofs.Start.{no_past, direction_start, facing_swap, facing_turned, length-turned}
use Rattle.direction.proofs.Shaped.{units-same}
use Rattle.rows.specs.Rows.{after}
use Rattle.law.specs.History.{Accepted, Event, history, accepted, taken, on_channel}
use Rattle.law.proofs.Pairs.{Seen}
use Rattle.law.proofs.Histories.{Grown, grown}

module _ (link : Setup) (ok : Accepted link) where
  facing : Facing link (swapped link)
  unfolding swapped
  facing = facing_turned link ok.rule ok.long

  long-there : length (swapped link).units ≡ 24
  unfolding swapped
  long-there = length-turned link ok.long

  -- ---- the start

  pub seen_start : Seen link (swapped link) (no_past link) (no_past (swapped link)) (pair_of link) 0
  unfolding pair_of end_of
  seen_start =
      record {
        ends_two = refl;
        lines_two = refl;
        both =
            record {
              me_is = refl;
              it_is = refl;
              facing = facing;
              to_fits = record { long = length-empty; room = omega arith };
              from_fits = record { long = length-empty; room = omega arith };
              sends = direction_start link (swapped link) facing ok.long long-there;
              receives = direction_start (swapped link) link (facing_swap facing) long-there ok.long;
            };
      }

  module _ (steps : List Step) where
    -- the history, and the pair after it
    abbrev pub es : List Event
    es = history (pair_of link) steps

    abbrev pub p : Pair
    p = after (pair_of link) steps

    pub all_grown : Grown link (swapped link) (no_past link) (no_past (swapped link)) es p
    all_grown = grown steps seen_start

    -- ---- the direction from end i

    pub record From (i : ℕ) : Type 0 where
      pub setup : Setup
      pub past : Past
      pub accepted_is : past.accepted ≡ accepted i es
      pub taken_is : past.taken ≡ taken (other i) es
      pub rule : in_range setup ≡ true
      pub classes_is : setup.classes ≡ link.classes
      pub units_are : (channel : ℕ) (c : Category) → channel < channels → units_at setup 1 channel (number_of c) ≡ units_at link (other i) channel (number_of c)
      pub holds : Direction setup past (end_at p i).sender (on_line (line_at p (other i))) (end_at p (other i)).receiver (on_line (line_at p i))

    from_0 : From 0
    from_0 =
        let g = all_grown in
        let b = g.seen.both in
        record {
          setup = link;
          past = g.up';
          accepted_is = g.up_grows.accepted_is;
          taken_is = g.up_grows.taken_is;
          rule = ok.rule;
          classes_is = refl;
          units_are = λ channel c h. refl;
          holds = rw b.me_is at b.sends;
        }

    from_1 : From 1
    unfolding swapped
    from_1 =
        let g = all_grown in
        let b = g.seen.both in
        record {
          setup = swapped link;
          past = g.down';
          accepted_is = g.down_grows.accepted_is;
          taken_is = g.down_grows.taken_is;
          rule = facing.there;
          classes_is = refl;
          units_are = λ channel c h. sym (units-same facing channel c h);
          holds = rw b.it_is at b.receives;
        }

    pub from : (i : ℕ) → i < 2 → From i
    from i h =
        by_cases (ℕ_discrete i 0) (λ e. rw e from_0)
        (λ n. let e : i ≡ 1 = omega arith in rw e from_1)

-- the packets of a channel are the same, by the setup of either end
pub on-is : (setup link : Setup) → setup.classes ≡ link.classes → (channel : ℕ) (ps : List Packet) → on setup channel ps ≡ on_channel link channel ps
unfolding channel_of
on-is setup link e channel ps = rw e
