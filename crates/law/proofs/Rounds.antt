-- A quiet round: after its exchanges the pair is at rest and caught up, and after its Takes fewer packets are untaken, in each direction.
-- Assumes nothing.
use Rattle.std.specs.Prelude.{Some, None}
use Prim.Native.Nat.{ℕ, zero, suc, pred, ◌+◌, ◌-◌, ◌<◌, ◌≤◌}
use mathlib.Core.Path.{◌≡◌, refl, sym, ap, subst, ◌∙◌}
use mathlib.Core.Bool.{true}
use mathlib.Core.List.{List, [], ◌∷◌}
use mathlib.Core.Logic.{by_cases}
use native.Mathlib.Decide.{ℕ_discrete}
use native.Mathlib.Omega.{arith}
use lib.ListN.{length, get_or, drop_of_length-le}
use Rattle.packets.specs.declared.Packet.{Packet}
use Rattle.store.specs.Store.{held}
use Rattle.line.specs.declared.Line.{Line}
use Rattle.line.specs.declared.Slot.{Slot}
use Rattle.line.specs.Line.{empty, on_line}
use Rattle.setup.specs.declared.Setup.{Setup}
use Rattle.setup.specs.Setup.{channels, in_range}
use Rattle.sender.specs.declared.Sender.{Sender}
use Rattle.sender.specs.Sources.{new_of}
use Rattle.receiver.specs.declared.Receiver.{Receiver}
use Rattle.receiver.specs.declared.Owed.TheVariants as Owed
use Rattle.receiver.specs.Receiver.{inbox_at, first_marked}
use Rattle.ends.specs.declared.End.{End}
use Rattle.ends.specs.Sends.{Sent}
use Rattle.ends.specs.Sends.{send_of}
use Rattle.pairs.specs.declared.Pair.{Pair}
use Rattle.pairs.specs.Pairs.{end_at, line_at, other}
use Rattle.rounds.specs.Rounds.{exchange, times, takes_at, opening, quiet_round}
use Rattle.views.specs.Views.{Sends, a_nak, an_ack, an_update, a_replay, a_new, nothing}
use Rattle.views.proofs.Sends.{send_view}
use Rattle.direction.specs.Direction.{Past, on_the_way, Direction}
use Rattle.quiet.specs.Quiet.{Live}
use Rattle.quiet.specs.Untaken.{untaken_of}
use Rattle.quiet.proofs.CaughtUp.{buffer_empty}
use Rattle.quiet.proofs.Untaken.{fewer}
use Rattle.law.proofs.Both.{Both}
use Rattle.law.proofs.Pairs.{Seen, seen_other}
use Rattle.law.proofs.Moves.{View, view_swap, view_seen}
use Rattle.law.proofs.Exchanges.{Still}
use Rattle.law.proofs.Stages.{Rest, Rested, comes}
use Rattle.law.proofs.Empties.{Emptied, takes_empty}
use Rattle.law.proofs.Opening.{few_0, few_1, opening_view}

-- ---- an end that has nothing to send

pub record Idle (e : End) : Type 0 where
  pub none_owed : e.receiver.reply.owed ≡ Owed.Nothing
  pub unmarked : first_marked e.receiver ≡ None
  pub rests : e.sender.replay.at ≡ None
  pub idle : new_of e.sender ≡ None

idle_by : {e : End} {x : Sent} → Sends e x → x.frame ≡ None → Idle e
idle_by (a_nak owed) z = let y : ◌≡◌ {A = ℕ} 0 1 = cc in absurd (omega arith)
idle_by (an_ack owed) z = let y : ◌≡◌ {A = ℕ} 0 1 = cc in absurd (omega arith)
idle_by (an_update k none first) z = let y : ◌≡◌ {A = ℕ} 0 1 = cc in absurd (omega arith)
idle_by (a_replay k none unmarked at) z = let y : ◌≡◌ {A = ℕ} 0 1 = cc in absurd (omega arith)
idle_by (a_new channel place none unmarked rests new) z = let y : ◌≡◌ {A = ℕ} 0 1 = cc in absurd (omega arith)
idle_by (nothing none unmarked rests new) z = record { none_owed = none; unmarked = unmarked; rests = rests; idle = new }

pub idle_end : {p : Pair} {i : ℕ} → Still p i → Idle (end_at p i)
idle_end {p} {i} s = idle_by (send_view (end_at p i)) s.nothing

pub empty-line : (l : Line) → l.len ≡ 0 → on_line l ≡ []
empty-line l e = rw e

-- ---- one direction at rest

-- from end i; both lines are empty
pub record At (near far : Setup) (a u b v : List Packet) (p : Pair) (i : ℕ) : Type 0 where
  pub view : View near far a u b v 0 0 p i
  pub here : Still p i
  pub there : Still p (other i)
  pub line_to : (line_at p i).len ≡ 0

module _ {near far : Setup} {a u b v : List Packet} {p : Pair} {i : ℕ} (r : At near far a u b v p i) where
  abbrev s : Sender
  s = (end_at p i).sender

  abbrev q : Receiver
  q = (end_at p (other i)).receiver

  pub direction : Direction near r.view.out s [] q []
  direction =
      rw (r.view.turn.both.me_is, empty-line (line_at p (other i)) r.here.empty, empty-line (line_at p i) r.line_to) at r.view.turn.both.sends

  pub live : Live 0 near r.view.out s [] q []
  live =
      rw (r.view.turn.both.me_is, empty-line (line_at p (other i)) r.here.empty, empty-line (line_at p i) r.line_to) at r.view.turn.sends

  pub rule : in_range near ≡ true
  rule = rw r.view.turn.both.me_is at r.view.turn.both.facing.here

  here_idle : Idle (end_at p i)
  here_idle = idle_end r.here

  there_idle : Idle (end_at p (other i))
  there_idle = idle_end r.there

  -- another past of a pair with the same sending half, lines as these, and nothing waiting at the receiver: after the Takes
  module _ {g' h' : Past} {p' : Pair} (w : Seen near far g' h' p' i) (sender_same : (end_at p' i).sender ≡ s) (lines_same : p'.lines ≡ p.lines)
      (none : (channel : ℕ) → channel < channels → held (inbox_at (end_at p' (other i)).receiver channel) ≡ []) (accepted_same : g'.accepted ≡ a) where
    line_at_lem : (k : ℕ) → line_at p' k ≡ line_at p k
    line_at_lem k = ap (λ l. get_or l k empty) lines_same

    direction_after : Direction near g' s [] (end_at p' (other i)).receiver []
    direction_after =
        rw (w.both.me_is, sender_same, line_at_lem (other i), line_at_lem i, empty-line (line_at p (other i)) r.here.empty, empty-line (line_at p i) r.line_to) at w.both.sends

    none-on_way : on_the_way g' ≡ []
    none-on_way =
        let e : s.buffer.len ≡ 0 = buffer_empty rule direction live here_idle.rests there_idle.none_owed there_idle.unmarked in
        let all : length g'.sent ≤ g'.got = omega (arith, direction_after.sending.buffer_len, direction_after.numbers.low) in
        drop_of_length-le g'.sent all

    pub lowers : untaken_of near a g'.taken ≤ pred (untaken_of near a u)
    lowers =
        rw (r.view.accepted_out, r.view.taken_out, accepted_same) at
        (fewer rule direction live here_idle.rests there_idle.none_owed there_idle.unmarked here_idle.idle direction_after none-on_way none)

-- ---- a round

-- what a round makes of a pair: nothing more is accepted, and fewer are untaken in each direction, or none was
pub record Round (near far : Setup) (g h : Past) (p' : Pair) : Type 0 where
  pub g' : Past
  pub h' : Past
  pub accepted_out : g'.accepted ≡ g.accepted
  pub accepted_back : h'.accepted ≡ h.accepted
  pub seen : Seen near far g' h' p' 0
  pub fewer_out : untaken_of near g.accepted g'.taken ≤ pred (untaken_of near g.accepted g.taken)
  pub fewer_back : untaken_of far h.accepted h'.taken ≤ pred (untaken_of far h.accepted h.taken)
  pub none_waits : (i channel : ℕ) → i < 2 → channel < channels → held (inbox_at (end_at p' i).receiver channel) ≡ []

module _ {near far : Setup} {g h : Past} {p : Pair} (w : Seen near far g h p 0) where
  -- after its exchanges
  pub rested : Rested near far g.accepted g.taken h.accepted h.taken (times 1024 exchange (opening p))
  rested = comes near far g.accepted g.taken h.accepted h.taken (opening p) (few_1 w) (few_0 w) (opening_view w)

  pub at_0 : At near far g.accepted g.taken h.accepted h.taken (times 1024 exchange (opening p)) 0
  at_0 = record { view = rested.calm.view; here = rested.rest.from_0; there = rested.rest.from_1; line_to = rested.rest.from_1.empty }

  pub at_1 : At far near h.accepted h.taken g.accepted g.taken (times 1024 exchange (opening p)) 1
  at_1 =
      record {
        view = view_swap 0 (omega arith) rested.calm.view;
        here = rested.rest.from_1;
        there = rested.rest.from_0;
        line_to = rested.rest.from_0.empty;
      }

  pub round : Round near far g h (quiet_round p)
  unfolding quiet_round
  round =
      let q = times 1024 exchange (opening p) in
      let e0 = takes_empty (omega arith) (view_seen rested.calm.view) in
      let e1 = takes_empty (omega arith) (seen_other 0 (omega arith) e0.seen) in
      let lines = e1.lines_same ∙ e0.lines_same in
      let zero_same : end_at (takes_at (takes_at q 0) 1) 0 ≡ end_at (takes_at q 0) 0 = e1.it_same in
      let none_0 : (channel : ℕ) → channel < channels → held (inbox_at (end_at (takes_at (takes_at q 0) 1) 0).receiver channel) ≡ [] =
      λ channel z. ap (λ (e : End). held (inbox_at e.receiver channel)) zero_same ∙ e0.empty channel z in
      let accepted-g = e1.accepted_same ∙ rested.calm.view.accepted_out in
      let accepted-h = e0.accepted_same ∙ rested.calm.view.accepted_back in
      record {
        g' = e1.back';
        h' = e0.back';
        accepted_out = accepted-g;
        accepted_back = accepted-h;
        seen = seen_other 1 (omega arith) e1.seen;
        fewer_out =
            lowers at_0 (seen_other 1 (omega arith) e1.seen) (ap (λ (e : End). e.sender) zero_same ∙ e0.sender_same) lines e1.empty accepted-g;
        fewer_back = lowers at_1 e1.seen (e1.sender_same ∙ ap (λ (e : End). e.sender) e0.it_same) lines none_0 accepted-h;
        none_waits = λ i channel z k.
            by_cases (ℕ_discrete i 0) (λ e. rw e (none_0 channel k))
            (λ n. let e : i ≡ 1 = omega arith in rw e (e1.empty channel k));
      }
