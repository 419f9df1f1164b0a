-- The opening of a quiet round: Timer at 0, at 1; Refresh at 0, at 1. From then on every frame on a line counts as old.
-- Assumes nothing.
use Rattle.std.specs.Prelude.{if◌then◌else◌}
use Prim.Native.Nat.{ℕ, ◌+◌, ◌<◌, ◌≤◌}
use mathlib.Core.Path.{◌≡◌, refl, sym, ap, subst, ◌∙◌}
use mathlib.Core.Logic.{◌≢◌, by_cases}
use mathlib.Core.Bool.{Bool, true, false, not, ◌&&◌}
use mathlib.Core.List.{List, [], ◌∷◌}
use native.Mathlib.Decide.{ℕ_discrete}
use native.Mathlib.Omega.{arith}
use borrow.Author.Tests.{le-leb, le-ltb, eqb-true, eqb-false}
use lib.Dec.{eqb, leb, ltb}
use lib.ListN.{length, get_or, set, length-set}
use lib.Seq.{get_or-set_same, get_or-set_other}
use Rattle.basics.proofs.Branches.{by_test}
use Rattle.packets.specs.declared.Packet.{Packet}
use Rattle.line.specs.declared.Line.{Line}
use Rattle.line.specs.declared.Slot.{Slot}
use Rattle.line.specs.Line.{empty, on_line}
use Rattle.line.proofs.OnLine.{length-on}
use Rattle.setup.specs.declared.Setup.{Setup}
use Rattle.setup.specs.Setup.{blank_setup, in_range}
use Rattle.sender.specs.declared.Sender.{Sender}
use Rattle.sender.specs.Sender.{Told}
use Rattle.sender.specs.Sender as S
use Rattle.receiver.specs.declared.Receiver.{Receiver}
use Rattle.receiver.specs.Receiver as R
use Rattle.ends.specs.declared.End.{End}
use Rattle.ends.specs.Ends.{end, end_of, timer_of, refresh_of}
use Rattle.script.specs.Step.{form_by, formed, fields_fit}
use Rattle.pairs.specs.declared.Pair.{Pair}
use Rattle.pairs.specs.Pairs.{Done}
use Rattle.pairs.specs.Pairs.{pair, end_at, line_at, other, by_end}
use Rattle.pairs.specs.Steps.{act, pair_in_shape, step_of}
use Rattle.rounds.specs.Rounds.{plain, did, opening}
use Rattle.direction.specs.Direction.{Past, Direction}
use Rattle.direction.proofs.Hearing.{timer-keeps}
use Rattle.direction.proofs.Answering.{refresh-keeps}
use Rattle.quiet.specs.Quiet.{Live}
use Rattle.quiet.proofs.Live.{live_open, live_open_idle}
use Rattle.law.proofs.Both.{Both}
use Rattle.law.proofs.Pairs.{Seen, seen_other, seen_shape, apart}
use Rattle.law.proofs.Moves.{View}

-- ---- Timer and Refresh at one end

-- the end after Timer, whether it starts a replay or is refused, and after Refresh
abbrev timed : End → End
timed e = end e.setup (S.timer_of e.sender).sender e.receiver

abbrev refreshed : End → End
refreshed e = end e.setup e.sender (R.refreshed e.receiver e.setup.n)

module _ {near far : Setup} {out back : Past} {me it : End} {to from : Line} (b : Both near far out back me it to from) where
  timed_both : Both near far out back (timed me) it to from
  unfolding S.timer_of
  timed_both =
      by_test (λ (t : Told). Both near far out back (end me.setup t.sender me.receiver) it to from) (eqb me.sender.buffer.len 0)
      (λ e. b)
      (λ e.
      record {
        me_is = b.me_is;
        it_is = b.it_is;
        facing = b.facing;
        to_fits = b.to_fits;
        from_fits = b.from_fits;
        sends = timer-keeps b.sends (eqb-false me.sender.buffer.len 0 e);
        receives = b.receives;
      })

  refreshed-both : Both near far out back (refreshed me) it to from
  refreshed-both =
      record {
        me_is = b.me_is;
        it_is = b.it_is;
        facing = b.facing;
        to_fits = b.to_fits;
        from_fits = b.from_fits;
        sends = b.sends;
        receives = rw (← b.facing.n_same) (refresh-keeps b.receives b.facing.there);
      }

-- ---- in the pair

plain-act : {near far : Setup} {out back : Past} {p : Pair} (step i : ℕ) → i < 2 → formed (plain step i) ≡ true → Seen near far out back p i
    → step_of p (plain step i) ≡ act p (plain step i)
unfolding step_of
plain-act step i h form v = rw (seen_shape i h v, le-ltb 1 i (omega arith), form)

form_7 : (i : ℕ) → i < 2 → formed (plain 7 i) ≡ true
unfolding form_by fields_fit
form_7 i h = rw (le-leb i 1 (omega arith))

form_8 : (i : ℕ) → i < 2 → formed (plain 8 i) ≡ true
unfolding form_by fields_fit
form_8 i h = rw (le-leb i 1 (omega arith))

-- the pair with another end i
abbrev with : Pair → ℕ → End → Pair
with p i e = pair (set p.ends i e) p.lines

end-here : (p : Pair) (i : ℕ) (e : End) → length p.ends ≡ 2 → i < 2 → end_at (with p i e) i ≡ e
end-here p i e two h = get_or-set_same p.ends i e (end_of blank_setup) (omega arith)

end-there : (p : Pair) (i : ℕ) (e : End) → i < 2 → end_at (with p i e) (other i) ≡ end_at p (other i)
end-there p i e h = get_or-set_other p.ends i (other i) e (end_of blank_setup) (apart i h)

seen-with : {near far : Setup} {out back : Past} {p : Pair} (i : ℕ) → i < 2 → Seen near far out back p i → (e : End)
    → Both near far out back e (end_at p (other i)) (line_at p i) (line_at p (other i)) → Seen near far out back (with p i e) i
seen-with {p = p} i h v e b =
    record {
      ends_two = length-set p.ends i e ∙ v.ends_two;
      lines_two = v.lines_two;
      both = rw (end-here p i e v.ends_two h, end-there p i e h) b;
    }

module _ {near far : Setup} {out back : Past} {p : Pair} (i : ℕ) (h : i < 2) (v : Seen near far out back p i) where
  timer-is : did p 7 i ≡ with p i (timed (end_at p i))
  unfolding did act by_end
  timer-is = ap (λ (d : Done). d.pair) (plain-act 7 i h (form_7 i h) v)

  refresh-is : did p 8 i ≡ with p i (refreshed (end_at p i))
  unfolding did act by_end refresh_of
  refresh-is = ap (λ (d : Done). d.pair) (plain-act 8 i h (form_8 i h) v)

  seen-timer : Seen near far out back (did p 7 i) i
  seen-timer = rw timer-is (seen-with i h v (timed (end_at p i)) (timed_both v.both))

  seen-refresh : Seen near far out back (did p 8 i) i
  seen-refresh = rw refresh-is (seen-with i h v (refreshed (end_at p i)) (refreshed-both v.both))

  -- the ends and lines after Timer, and after Refresh
  timer-here : end_at (did p 7 i) i ≡ timed (end_at p i)
  timer-here = rw timer-is (end-here p i (timed (end_at p i)) v.ends_two h)

  timer-there : end_at (did p 7 i) (other i) ≡ end_at p (other i)
  timer-there = rw timer-is (end-there p i (timed (end_at p i)) h)

  timer-lines : (did p 7 i).lines ≡ p.lines
  timer-lines = rw timer-is

  refresh-here : end_at (did p 8 i) i ≡ refreshed (end_at p i)
  refresh-here = rw refresh-is (end-here p i (refreshed (end_at p i)) v.ends_two h)

  refresh-there : end_at (did p 8 i) (other i) ≡ end_at p (other i)
  refresh-there = rw refresh-is (end-there p i (refreshed (end_at p i)) h)

  refresh-lines : (did p 8 i).lines ≡ p.lines
  refresh-lines = rw refresh-is

-- ---- the four steps

-- the end after the opening
abbrev opened : End → End
opened e = refreshed (timed e)

record Opened (near far : Setup) (out back : Past) (p q : Pair) : Type 0 where
  seen : Seen near far out back q 0
  end_0 : end_at q 0 ≡ opened (end_at p 0)
  end_1 : end_at q 1 ≡ opened (end_at p 1)
  lines : q.lines ≡ p.lines

module _ {near far : Setup} {out back : Past} {p : Pair} (v : Seen near far out back p 0) where
  opening-does : Opened near far out back p (opening p)
  unfolding opening
  opening-does =
      let v1 = seen-timer 0 (omega arith) v in
      let w1 = seen_other 0 (omega arith) v1 in
      let w2 = seen-timer 1 (omega arith) w1 in
      let v2 = seen_other 1 (omega arith) w2 in
      let v3 = seen-refresh 0 (omega arith) v2 in
      let w3 = seen_other 0 (omega arith) v3 in
      let w4 = seen-refresh 1 (omega arith) w3 in
      record {
        seen = seen_other 1 (omega arith) w4;
        end_0 =
            refresh-there 1 (omega arith) w3 ∙ refresh-here 0 (omega arith) v2
            ∙ ap refreshed (timer-there 1 (omega arith) w1 ∙ timer-here 0 (omega arith) v);
        end_1 =
            refresh-here 1 (omega arith) w3
            ∙ ap refreshed (refresh-there 0 (omega arith) v2 ∙ timer-here 1 (omega arith) w1 ∙ ap timed (timer-there 0 (omega arith) v));
        lines = refresh-lines 1 (omega arith) w3 ∙ refresh-lines 0 (omega arith) v2 ∙ timer-lines 1 (omega arith) w1 ∙ timer-lines 0 (omega arith) v;
      }

-- ---- every frame on a line is old

-- whether Timer starts a replay or nothing is unacknowledged; the receiving end's setup has the same n
live_timed : {link : Setup} {g : Past} {s : Sender} {forth back : List Slot} {r : Receiver} → in_range link ≡ true → Direction link g s forth r back → (n : ℕ) → n ≡ link.n
    → Live (length forth) link g (S.timer_of s).sender forth (R.refreshed r n) back
unfolding S.timer_of
live_timed {link} {g} {s} {forth} {back} {r} ok i n e =
    rw e
    (by_test (λ (t : Told). Live (length forth) link g t.sender forth (R.refreshed r link.n) back) (eqb s.buffer.len 0)
    (λ z. live_open_idle ok i (eqb-true s.buffer.len 0 z))
    (λ z. live_open ok i))

module _ {near far : Setup} {out back : Past} {p : Pair} (v : Seen near far out back p 0) where
  abbrev l0 : Line
  l0 = line_at p 0

  abbrev l1 : Line
  l1 = line_at p 1

  pub few_0 : length (on_line l0) ≤ 16
  few_0 = omega (arith, length-on l0 v.both.to_fits.long v.both.to_fits.room, v.both.to_fits.room)

  pub few_1 : length (on_line l1) ≤ 16
  few_1 = omega (arith, length-on l1 v.both.from_fits.long v.both.from_fits.room, v.both.from_fits.room)

  pub opening_view : View near far out.accepted out.taken back.accepted back.taken (length (on_line l1)) (length (on_line l0)) (opening p) 0
  opening_view =
      let o = opening-does v in
      let line_0 : line_at (opening p) 0 ≡ l0 = ap (λ l. get_or l 0 empty) o.lines in
      let line_1 : line_at (opening p) 1 ≡ l1 = ap (λ l. get_or l 1 empty) o.lines in
      let b = v.both in
      record {
        out = out;
        back = back;
        accepted_out = refl;
        taken_out = refl;
        accepted_back = refl;
        taken_back = refl;
        ends_two = o.seen.ends_two;
        lines_two = o.seen.lines_two;
        turn =
            record {
              both = o.seen.both;
              sends = rw (o.end_0, o.end_1, line_0, line_1) (live_timed b.facing.here b.sends (end_at p 1).setup.n b.facing.n_same);
              receives = rw (o.end_0, o.end_1, line_0, line_1) (live_timed b.facing.there b.receives (end_at p 0).setup.n (sym b.facing.n_same));
            };
      }
