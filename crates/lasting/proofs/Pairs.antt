-- A step of a pair in shape leaves it in shape: the next step is not answered 10.
-- There are two ends and two lines, the arrays have their lengths, and both ends use as many channels. Without the last it is false: an update of
-- one end could name a channel that the other does not use. Assumes nothing else.
use Rattle.std.specs.Prelude.{if◌then◌else◌, Some, None, Option}
use Prim.Native.Nat.{ℕ, zero, suc, ◌≤◌}
use mathlib.Core.Path.{◌≡◌, refl, sym, ◌∙◌}
use mathlib.Core.Bool.{true, false, ◌&&◌, not}
use native.Mathlib.Omega.{arith}
use borrow.Author.Tests.{le-leb, lt-leb, leb-true, ltb-false, eq-eqb}
use lib.Dec.{leb, ltb, eqb}
use lib.ListN.{length, set, length-set}
use Rattle.basics.specs.Lists.{all}
use Rattle.basics.proofs.All.{all_snoc, all_drop}
use Rattle.basics.proofs.Branches.{by_test, and_left, and_right}
use Rattle.basics.proofs.Each.{by_order_lem}
use Rattle.basics.proofs.Places.{stored-keeps}
use Rattle.frames.specs.declared.Frame.{Frame}
use Rattle.frames.specs.Frames.{frame_answer}
use Rattle.line.specs.declared.Line.{Line}
use Rattle.line.specs.Line.{capacity, empty, on_line, is_full, put, front_of, rest_of}
use Rattle.line.proofs.OnLine.{not_full, on-put, len_put, length-put, len_rest, on-rest, length_rest}
use Rattle.setup.specs.Setup.{blank_setup}
use Rattle.script.specs.declared.Step.{Step}
use Rattle.script.specs.Step.{formed}
use Rattle.sender.proofs.Arrays as Sending
use Rattle.receipts.proofs.Arrays as Receiving
use Rattle.ends.specs.declared.End.{End}
use Rattle.ends.specs.Ends.{Stepped}
use Rattle.ends.specs.Ends.{end_of, submit_of, arrive_of, damage_of, take_at, timer_of, refresh_of}
use Rattle.ends.specs.Sends.{send_of}
use Rattle.shape.specs.Shape.{in_shape}
use Rattle.pairs.specs.declared.Pair.{Pair}
use Rattle.pairs.specs.Pairs.{Done}
use Rattle.pairs.specs.Pairs.{pair, done, end_at, line_at, other, by_end, carried, send_at, reached, on_front, reach_at, lose_at}
use Rattle.pairs.specs.Steps.{packet_of, act, slot_fits, line_fits, pair_in_shape, step_of}
use Rattle.lasting.proofs.Ends as E
use Rattle.lasting.proofs.Ends.{Lasts, submit_lasts, send_lasts, sent_fits, arrive_lasts, damage_lasts, take_lasts, timer_lasts, refresh_lasts}

-- ---- a line

-- of 16 places, not over its bound, and each frame on it in range
pub record LineSound (n : ℕ) (l : Line) : Type 0 where
  pub long : length l.slots ≡ capacity
  pub fits : line_fits n l ≡ true

rest-empty : (l : Line) → l.len ≤ 0 → rest_of l ≡ l
unfolding rest_of
rest-empty l none = simp (rest_of, lt-leb 1 l.len (omega arith))

module _ {n : ℕ} {l : Line} (k : LineSound n l) where
  bound : l.len ≤ capacity
  unfolding line_fits
  bound = leb-true l.len capacity (and_left (leb l.len capacity) (all (slot_fits n) (on_line l)) k.fits)

  all_fit : all (slot_fits n) (on_line l) ≡ true
  unfolding line_fits
  all_fit = and_right (leb l.len capacity) (all (slot_fits n) (on_line l)) k.fits

  put_sound : (f : Frame) → frame_answer n f ≡ 0 → is_full l ≡ false → LineSound n (put l f)
  unfolding line_fits
  put_sound f ok room =
      let free = not_full l k.long room in
      let small : (put l f).len ≤ capacity = rw (len_put l k.long f free) (omega arith) in
      record {
        long = length-put l k.long f ∙ k.long;
        fits = rw (le-leb _ _ small, on-put l k.long f free, all_snoc (slot_fits n) (on_line l), all_fit) (eq-eqb (frame_answer n f) 0 ok);
      }

  -- an empty one stays as it was
  rest_sound : LineSound n (rest_of l)
  unfolding line_fits
  rest_sound =
      by_order_lem 0 l.len
      (λ some.
      let small : (rest_of l).len ≤ capacity = rw (len_rest l k.long some bound) (omega (arith, bound)) in
      record {
        long = length_rest l k.long ∙ k.long;
        fits = rw (le-leb _ _ small, on-rest l k.long some bound) (all_drop (slot_fits n) 1 (on_line l) all_fit);
      })
      (λ none. rw (rest-empty l none) k)

-- ---- a pair

-- what holds of end 0 and of end 1
zero_or_one : (P : ℕ → Type 0) → P 0 → P 1 → (i : ℕ) → i ≤ 1 → P i
zero_or_one P a b zero h = a
zero_or_one P a b (suc zero) h = b
zero_or_one P a b (suc (suc i)) h = absurd (omega arith)

pub record Sound (p : Pair) : Type 0 where
  pub two_ends : length p.ends ≡ 2
  pub two_lines : length p.lines ≡ 2
  -- as many channels as both ends use
  pub n : ℕ
  pub uses : (i : ℕ) → i ≤ 1 → (end_at p i).setup.n ≡ n
  pub end : (i : ℕ) → i ≤ 1 → E.Sound (end_at p i)
  pub line : (i : ℕ) → i ≤ 1 → LineSound n (line_at p i)

pub sound_shape : {p : Pair} → Sound p → pair_in_shape p ≡ true
unfolding pair_in_shape
sound_shape s =
    let low : 0 ≤ 1 = omega arith in
    let high : 1 ≤ 1 = omega arith in
    rw ((s.end 0 low).shape, (s.end 1 high).shape, s.uses 0 low, s.uses 1 high, (s.line 0 low).fits, (s.line 1 high).fits)

-- and back: a pair in shape, with the lengths of its arrays and as many channels in use at both ends
module _ (p : Pair) (two_ends : length p.ends ≡ 2) (two_lines : length p.lines ≡ 2) (same : (end_at p 0).setup.n ≡ (end_at p 1).setup.n)
    (sending : (i : ℕ) → i ≤ 1 → Sending.Arrays (end_at p i).sender) (receiving : (i : ℕ) → i ≤ 1 → Receiving.Arrays (end_at p i).receiver)
    (long : (i : ℕ) → i ≤ 1 → length (line_at p i).slots ≡ capacity) where
  pub shape_sound : pair_in_shape p ≡ true → Sound p
  unfolding pair_in_shape
  shape_sound t =
      let n = (end_at p 0).setup.n in
      let a = in_shape (end_at p 0) in
      let b = in_shape (end_at p 1) in
      let c = line_fits n (line_at p 0) in
      let d = line_fits (end_at p 1).setup.n (line_at p 1) in
      let t1 = and_right a (b && (c && d)) t in
      let t2 = and_right b (c && d) t1 in
      let shape : (i : ℕ) → i ≤ 1 → in_shape (end_at p i) ≡ true =
      zero_or_one (λ i. in_shape (end_at p i) ≡ true) (and_left a (b && (c && d)) t) (and_left b (c && d) t1) in
      let fits : (i : ℕ) → i ≤ 1 → line_fits n (line_at p i) ≡ true =
      zero_or_one (λ i. line_fits n (line_at p i) ≡ true) (and_left c d t2) (rw same (and_right c d t2)) in
      record {
        two_ends = two_ends;
        two_lines = two_lines;
        n = n;
        uses = zero_or_one (λ i. (end_at p i).setup.n ≡ n) refl (sym same);
        end = λ i h. record { sending = sending i h; receiving = receiving i h; shape = shape i h };
        line = λ i h. record { long = long i h; fits = fits i h };
      }

module _ {p : Pair} (s : Sound p) where
  -- ---- what is stored

  end-stored : (i : ℕ) (e : End) → i ≤ 1 → Lasts (end_at p i) e → Sound (pair (set p.ends i e) p.lines)
  end-stored i e h k =
      record {
        two_ends = length-set p.ends i e ∙ s.two_ends;
        two_lines = s.two_lines;
        n = s.n;
        uses = λ j b.
            stored-keeps (λ (x : End). x.setup.n ≡ s.n) p.ends i j e (end_of blank_setup) (rw k.same (s.uses i h)) (s.uses j b);
        end = λ j b. stored-keeps E.Sound p.ends i j e (end_of blank_setup) k.sound (s.end j b);
        line = s.line;
      }

  line-stored : (i : ℕ) (l : Line) → LineSound s.n l → Sound (pair p.ends (set p.lines i l))
  line-stored i l k =
      record {
        two_ends = s.two_ends;
        two_lines = length-set p.lines i l ∙ s.two_lines;
        n = s.n;
        uses = s.uses;
        end = s.end;
        line = λ j b. stored-keeps (LineSound s.n) p.lines i j l empty k (s.line j b);
      }

-- ---- the steps

abbrev After : Done → Type 0
After d = Sound d.pair

module _ {p : Pair} (s : Sound p) (i : ℕ) (h : i ≤ 1) where
  by_end_lem : (o : Stepped) → Lasts (end_at p i) o.end → Sound (by_end p i o).pair
  unfolding by_end
  by_end_lem o k = end-stored s i o.end h k

  carries : (x : Option Frame) → (send_of (end_at p i)).frame ≡ x → Sound (carried p i (send_of (end_at p i)) x).pair
  unfolding end-stored
  carries (Some f) is =
      let there : other i ≤ 1 = omega arith in
      let fit = sent_fits (s.end i h) f is in
      by_test After (is_full (line_at p (other i))) (λ t. s)
      (λ t.
      line-stored (end-stored s i _ h (send_lasts (s.end i h))) (other i) (put (line_at p (other i)) f)
      (put_sound (s.line (other i) there) f (rw (s.uses i h) at fit) t))
  carries None is = s

  send_sound : Sound (send_at p i).pair
  unfolding send_at
  send_sound = carries (send_of (end_at p i)).frame refl

  reaches : (o : Stepped) → Lasts (end_at p i) o.end → Sound (reached p i o).pair
  unfolding reached end-stored
  reaches o k =
      by_test After (eqb o.answer 0)
      (λ t. line-stored (end-stored s i o.end h k) i (rest_of (line_at p i)) (rest_sound (s.line i h)))
      (λ t. s)

  on_front_lem : (x : Option Frame) (found : Frame → Done) → ((f : Frame) → Sound (found f).pair) → Sound (on_front p x found).pair
  on_front_lem (Some f) found k = k f
  on_front_lem None found k = s

  reach_sound : (step : End → Frame → Stepped) → ((f : Frame) → Lasts (end_at p i) (step (end_at p i) f).end) → Sound (reach_at step p i).pair
  unfolding reach_at
  reach_sound step k = on_front_lem (front_of (line_at p i)) (λ f. reached p i (step (end_at p i) f)) (λ f. reaches (step (end_at p i) f) (k f))

  lose_sound : Sound (lose_at p i).pair
  unfolding lose_at
  lose_sound = on_front_lem (front_of (line_at p i)) _ (λ f. line-stored s i (rest_of (line_at p i)) (rest_sound (s.line i h)))

-- every step keeps it
pub lasts : {p : Pair} (t : Step) → Sound p → t.end ≤ 1 → Sound (act p t).pair
unfolding act
lasts {p} t s h =
    let i = t.end in
    let e = s.end i h in
    by_test After (eqb t.step 1) (λ z. by_end_lem s i h (submit_of (end_at p i) (packet_of t)) (submit_lasts e (packet_of t)))
    (λ z. by_test After (eqb t.step 2) (λ z. send_sound s i h)
    (λ z. by_test After (eqb t.step 3) (λ z. reach_sound s i h arrive_of (arrive_lasts e))
    (λ z. by_test After (eqb t.step 4) (λ z. reach_sound s i h damage_of (damage_lasts e))
    (λ z. by_test After (eqb t.step 5) (λ z. lose_sound s i h)
    (λ z. by_test After (eqb t.step 6) (λ z. by_end_lem s i h (take_at (end_at p i) t.class t.kind) (take_lasts e t.class t.kind))
    (λ z. by_test After (eqb t.step 7) (λ z. by_end_lem s i h (timer_of (end_at p i)) (timer_lasts e))
    (λ z. by_end_lem s i h (refresh_of (end_at p i)) (refresh_lasts e))))))))

-- so a step is refused by its fields, or it is the step itself
pub steps_as : {p : Pair} (t : Step) → Sound p
    → step_of p t ≡ (if ltb 1 t.end then done p 11 0 else if not (formed t) then done p 6 0 else act p t)
unfolding step_of
steps_as t s = rw (sound_shape s)

pub step_lasts : {p : Pair} (t : Step) → Sound p → Sound (step_of p t).pair
step_lasts {p} t s =
    rw (steps_as t s)
    (by_test After (ltb 1 t.end) (λ z. s)
    (λ z. by_test After (not (formed t)) (λ y. s) (λ y. lasts t s (ltb-false 1 t.end z))))
