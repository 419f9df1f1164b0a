-- Send and Arrive of the pair within a quiet round, seen from the end that acts. Assumes nothing.
use Rattle.std.specs.Prelude.{if◌then◌else◌, Some, None, Option}
use Prim.Native.Nat.{ℕ, zero, suc, pred, ◌+◌, ◌-◌, ◌<◌, ◌≤◌}
use mathlib.Core.Path.{◌≡◌, refl, sym, ap, subst, ◌∙◌}
use mathlib.Core.Logic.{◌≢◌, by_cases}
use mathlib.Core.Bool.{Bool, true, false, not, ◌&&◌}
use mathlib.Core.List.{List, [], ◌∷◌, ◌++◌}
use native.Mathlib.Decide.{ℕ_discrete}
use native.Mathlib.Omega.{arith}
use borrow.Author.Tests.{eq-eqb, le-leb, le-ltb}
use lib.Dec.{eqb, leb, ltb}
use lib.ListN.{length, get_or, set, length-set}
use lib.Seq.{get_or-set_same, get_or-set_other}
use Rattle.basics.proofs.Branches.{by_test}
use Rattle.packets.specs.declared.Packet.{Packet}
use Rattle.frames.specs.declared.Frame.{Frame}
use Rattle.line.specs.declared.Line.{Line}
use Rattle.line.specs.Line.{slot, empty, on_line, is_full, put, front_of, rest_of}
use Rattle.line.proofs.OnLine.{on-put, len_put, not_full, front-nothing, len_rest, length-on}
use Rattle.setup.specs.declared.Setup.{Setup}
use Rattle.setup.specs.Setup.{blank_setup}
use Rattle.receiver.specs.declared.Owed.TheVariants as Owed
use Rattle.ends.specs.declared.End.{End}
use Rattle.ends.specs.Ends.{Stepped}
use Rattle.ends.specs.Sends.{Sent}
use Rattle.ends.specs.Ends.{end_of, arrive_of}
use Rattle.ends.specs.Sends.{send_of}
use Rattle.script.specs.Step.{form_by, formed, fields_fit}
use Rattle.pairs.specs.declared.Pair.{Pair}
use Rattle.pairs.specs.Pairs.{Done}
use Rattle.pairs.specs.Pairs.{pair, done, end_at, line_at, other, carried, send_at, reached, on_front, reach_at}
use Rattle.pairs.specs.Steps.{act, pair_in_shape, step_of}
use Rattle.rounds.specs.Rounds.{plain, did}
use Rattle.views.specs.Views.{Sends, a_nak, an_ack, an_update, a_replay, a_new, nothing}
use Rattle.views.proofs.Sends.{send_view}
use Rattle.direction.specs.Direction.{Past}
use Rattle.quiet.specs.Quiet.{Calm}
use Rattle.quiet.specs.Burden.{burden, weight, weight_of}
use Rattle.law.proofs.Both.{Both}
use Rattle.law.proofs.Pairs.{Seen, seen_shape, apart}
use Rattle.law.proofs.Reaching.{on_to}
use Rattle.law.proofs.Turns.{Turn, turn_swap, Left, send_turn}
use Rattle.law.proofs.TurnArrivals.{Entered, arrive_turn}
use Rattle.quiet.proofs.Most.{weight-append}
use Rattle.quiet.proofs.Calm.{calm_gone}

-- arrivals still to come, at both ends and on both lines
abbrev pub load : Pair → ℕ → ℕ
load p i =
    burden (end_at p i).sender (end_at p i).receiver + burden (end_at p (other i)).sender (end_at p (other i)).receiver
    + weight_of (on_line (line_at p i)) + weight_of (on_line (line_at p (other i)))

-- the pair from end i: what was accepted and taken in the direction in which it sends (`a`, `u`) and in the other (`b`, `v`); n frames on the line
-- from it and m on the line to it are old
pub record View (near far : Setup) (a u b v : List Packet) (n m : ℕ) (p : Pair) (i : ℕ) : Type 0 where
  pub out : Past
  pub back : Past
  pub accepted_out : out.accepted ≡ a
  pub taken_out : out.taken ≡ u
  pub accepted_back : back.accepted ≡ b
  pub taken_back : back.taken ≡ v
  pub ends_two : length p.ends ≡ 2
  pub lines_two : length p.lines ≡ 2
  pub turn : Turn n m near far out back (end_at p i) (end_at p (other i)) (line_at p i) (line_at p (other i))

-- Send and Arrive have no use for the other fields, so they are in form
pub form_2 : (i : ℕ) → i < 2 → formed (plain 2 i) ≡ true
unfolding form_by fields_fit
form_2 i h = rw (le-leb i 1 (omega arith))

form_3 : (i : ℕ) → i < 2 → formed (plain 3 i) ≡ true
unfolding form_by fields_fit
form_3 i h = rw (le-leb i 1 (omega arith))

module _ {near far : Setup} {a u b v : List Packet} {n m : ℕ} {p : Pair} where
  pub view_swap : (i : ℕ) → i < 2 → View near far a u b v n m p i → View far near b v a u m n p (other i)
  view_swap i h w =
      let e : other (other i) ≡ i = omega arith in
      record {
        out = w.back;
        back = w.out;
        accepted_out = w.accepted_back;
        taken_out = w.taken_back;
        accepted_back = w.accepted_out;
        taken_back = w.taken_out;
        ends_two = w.ends_two;
        lines_two = w.lines_two;
        turn = rw e (turn_swap w.turn);
      }

  pub view_seen : {i : ℕ} → (w : View near far a u b v n m p i) → Seen near far w.out w.back p i
  view_seen w = record { ends_two = w.ends_two; lines_two = w.lines_two; both = w.turn.both }

  -- ---- a plain step of it is that step: neither 10 nor 11 nor 6

  pub plain_step : (step i : ℕ) → i < 2 → formed (plain step i) ≡ true → View near far a u b v n m p i → step_of p (plain step i) ≡ act p (plain step i)
  unfolding step_of
  plain_step step i h form w = rw (seen_shape i h (view_seen w), le-ltb 1 i (omega arith), form)

  pub send-step : (i : ℕ) → i < 2 → View near far a u b v n m p i → did p 2 i ≡ (send_at p i).pair
  unfolding did act
  send-step i h w = ap (λ (d : Done). d.pair) (plain_step 2 i h (form_2 i h) w)

  pub arrive-step : (i : ℕ) → i < 2 → View near far a u b v n m p i → did p 3 i ≡ (reach_at arrive_of p i).pair
  unfolding did act
  arrive-step i h w = ap (λ (d : Done). d.pair) (plain_step 3 i h (form_3 i h) w)

-- ---- Send

-- the frame went
pub record Went (near far : Setup) (a u b v : List Packet) (n m : ℕ) (p : Pair) (i : ℕ) (p' : Pair) : Type 0 where
  pub view : View near far a u b v n m p' i
  pub longer : (line_at p' (other i)).len ≡ (line_at p (other i)).len + 1
  pub to_same : line_at p' i ≡ line_at p i
  pub it_same : end_at p' (other i) ≡ end_at p (other i)
  pub load_same : load p' i ≡ load p i
  pub owes_none : (end_at p' i).receiver.reply.owed ≡ Owed.Nothing
  pub calm : (k : ℕ) → (end_at p i).receiver.reply.owed ≢ Owed.Nak → Calm k (on_line (line_at p (other i))) → Calm k (on_line (line_at p' (other i)))

pub data Sending (near far : Setup) (a u b v : List Packet) (n m : ℕ) (p : Pair) (i : ℕ) : Pair → Type 0 where
  none_applies : (send_of (end_at p i)).frame ≡ None → (end_at p i).receiver.reply.owed ≡ Owed.Nothing → Sending near far a u b v n m p i p
  line_full : is_full (line_at p (other i)) ≡ true → Sending near far a u b v n m p i p
  it_went : {p' : Pair} → Went near far a u b v n m p i p' → Sending near far a u b v n m p i p'

module _ {near far : Setup} {a u b v : List Packet} {n m : ℕ} {p : Pair} {i : ℕ} (h : i < 2) (w : View near far a u b v n m p i) where
  -- the pair with another end and another line from it
  module _ (e : End) (f : Frame) (free : is_full (line_at p (other i)) ≡ false) (left : Left n m near far w.out w.back (end_at p i) (end_at p (other i)) (line_at p i) (line_at p (other i)) e f) where
    abbrev l : Line
    l = put (line_at p (other i)) f

    abbrev q : Pair
    q = pair (set p.ends i e) (set p.lines (other i) l)

    here : end_at q i ≡ e
    here = get_or-set_same p.ends i e (end_of blank_setup) (omega (arith, w.ends_two))

    there : end_at q (other i) ≡ end_at p (other i)
    there = get_or-set_other p.ends i (other i) e (end_of blank_setup) (apart i h)

    line-here : line_at q i ≡ line_at p i
    line-here = get_or-set_other p.lines (other i) i l empty (λ z. apart i h (sym z))

    line-there : line_at q (other i) ≡ l
    line-there = get_or-set_same p.lines (other i) l empty (omega (arith, w.lines_two))

    few : (line_at p (other i)).len < 16
    few = not_full (line_at p (other i)) w.turn.both.from_fits.long free

    on-more : on_line l ≡ on_line (line_at p (other i)) ++ (slot f ∷ [])
    on-more = on-put (line_at p (other i)) w.turn.both.from_fits.long f few

    went : Went near far a u b v n m p i q
    went =
        record {
          view =
              record {
                out = left.out';
                back = w.back;
                accepted_out = left.accepted_same ∙ w.accepted_out;
                taken_out = left.taken_same ∙ w.taken_out;
                accepted_back = w.accepted_back;
                taken_back = w.taken_back;
                ends_two = length-set p.ends i e ∙ w.ends_two;
                lines_two = length-set p.lines (other i) l ∙ w.lines_two;
                turn = rw (here, there, line-here, line-there) left.turn;
              };
          longer = rw line-there (len_put (line_at p (other i)) w.turn.both.from_fits.long f few);
          to_same = line-here;
          it_same = there;
          load_same = rw (here, there, line-here, line-there, on-more, weight-append (on_line (line_at p (other i))) f) (omega (arith, left.lighter));
          owes_none = rw here left.owes_none;
          calm = λ k z c. rw (line-there, on-more) (left.calm k z c);
        }

  sending : (x : Sent) → Sends (end_at p i) x → (f : Option Frame) → x.frame ≡ f → send_of (end_at p i) ≡ x → Sending near far a u b v n m p i (carried p i x f).pair
  sending x s (Some f) e z =
      by_test (λ (d : Done). Sending near far a u b v n m p i d.pair) (is_full (line_at p (other i)))
      (λ t. line_full t)
      (λ t. it_went (went x.end f t (send_turn w.turn t s f e)))
  sending x s None e z = none_applies (ap (λ (y : Sent). y.frame) z ∙ e) (owes s e)
    where
      owes : {y : Sent} → Sends (end_at p i) y → y.frame ≡ None → (end_at p i).receiver.reply.owed ≡ Owed.Nothing
      owes (a_nak owed) e = let z : ◌≡◌ {A = ℕ} 0 1 = cc in absurd (omega arith)
      owes (an_ack owed) e = let z : ◌≡◌ {A = ℕ} 0 1 = cc in absurd (omega arith)
      owes (an_update k none first) e = none
      owes (a_replay k none unmarked at) e = none
      owes (a_new channel place none unmarked rests new) e = none
      owes (nothing none unmarked rests new) e = none

  pub send_moves : Sending near far a u b v n m p i (did p 2 i)
  unfolding send_at
  send_moves = rw (send-step i h w) (sending (send_of (end_at p i)) (send_view (end_at p i)) (send_of (end_at p i)).frame refl refl)

-- ---- Arrive

pub record Came (near far : Setup) (a u b v : List Packet) (n m : ℕ) (p : Pair) (i : ℕ) (p' : Pair) : Type 0 where
  pub view : View near far a u b v n (pred m) p' i
  pub shorter : (line_at p' i).len + 1 ≡ (line_at p i).len
  pub from_same : line_at p' (other i) ≡ line_at p (other i)
  pub it_same : end_at p' (other i) ≡ end_at p (other i)
  pub no_nak : m ≡ 0 → (end_at p i).receiver.reply.owed ≢ Owed.Nak → (end_at p' i).receiver.reply.owed ≢ Owed.Nak
  pub calm : (k : ℕ) → Calm k (on_line (line_at p i)) → Calm (pred k) (on_line (line_at p' i))
  pub lighter : Calm 0 (on_line (line_at p i)) → load p' i < load p i

pub data Arriving (near far : Setup) (a u b v : List Packet) (n m : ℕ) (p : Pair) (i : ℕ) : Pair → Type 0 where
  line_empty : (line_at p i).len ≡ 0 → Arriving near far a u b v n m p i p
  it_came : {p' : Pair} → Came near far a u b v n m p i p' → Arriving near far a u b v n m p i p'

module _ {near far : Setup} {a u b v : List Packet} {n m : ℕ} {p : Pair} {i : ℕ} (h : i < 2) (w : View near far a u b v n m p i) where
  module _ (f : Frame) (front : front_of (line_at p i) ≡ Some f) (x : Stepped)
      (entered : Entered n m near far w.out w.back (end_at p i) (end_at p (other i)) (line_at p i) (line_at p (other i)) x) where
    abbrev rest : Line
    rest = rest_of (line_at p i)

    abbrev r : Pair
    r = pair (set p.ends i x.end) (set p.lines i rest)

    here_r : end_at r i ≡ x.end
    here_r = get_or-set_same p.ends i x.end (end_of blank_setup) (omega (arith, w.ends_two))

    there_r : end_at r (other i) ≡ end_at p (other i)
    there_r = get_or-set_other p.ends i (other i) x.end (end_of blank_setup) (apart i h)

    line-here_r : line_at r i ≡ rest
    line-here_r = get_or-set_same p.lines i rest empty (omega (arith, w.lines_two))

    line-there_r : line_at r (other i) ≡ line_at p (other i)
    line-there_r = get_or-set_other p.lines i (other i) rest empty (apart i h)

    on-rest : on_line (line_at p i) ≡ slot f ∷ on_line rest
    on-rest = on_to w.turn.both f front

    some : 0 < (line_at p i).len
    some = omega (arith, ap length on-rest, length-on (line_at p i) w.turn.both.to_fits.long w.turn.both.to_fits.room)

    came : Came near far a u b v n m p i r
    came =
        record {
          view =
              record {
                out = entered.out';
                back = entered.back';
                accepted_out = entered.accepted_out ∙ w.accepted_out;
                taken_out = entered.taken_out ∙ w.taken_out;
                accepted_back = entered.accepted_back ∙ w.accepted_back;
                taken_back = entered.taken_back ∙ w.taken_back;
                ends_two = length-set p.ends i x.end ∙ w.ends_two;
                lines_two = length-set p.lines i rest ∙ w.lines_two;
                turn = rw (here_r, there_r, line-here_r, line-there_r) entered.turn;
              };
          shorter = rw line-here_r (omega (arith, len_rest (line_at p i) w.turn.both.to_fits.long some w.turn.both.to_fits.room, some));
          from_same = line-there_r;
          it_same = there_r;
          no_nak = λ z k. rw here_r (entered.no_nak z k);
          calm = λ k c. rw line-here_r (calm_gone (rw on-rest at c));
          lighter = λ c. rw (here_r, there_r, line-here_r, line-there_r) (omega (arith, entered.lighter c));
        }

    arrived : Arriving near far a u b v n m p i (reached p i x).pair
    unfolding reached
    arrived = rw (eq-eqb x.answer 0 entered.says) (it_came came)

  arriving : (x : Option Frame) → front_of (line_at p i) ≡ x → Arriving near far a u b v n m p i (on_front p x (λ f. reached p i (arrive_of (end_at p i) f))).pair
  arriving None e =
      line_empty (omega (arith, ap length (front-nothing (line_at p i) w.turn.both.to_fits.long e), length-on (line_at p i) w.turn.both.to_fits.long w.turn.both.to_fits.room))
  arriving (Some f) e = arrived f e (arrive_of (end_at p i) f) (arrive_turn w.turn f e)

  pub arrive_moves : Arriving near far a u b v n m p i (did p 3 i)
  unfolding reach_at
  arrive_moves = rw (arrive-step i h w) (arriving (front_of (line_at p i)) refl)
