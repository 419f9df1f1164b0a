-- Exchanges of a quiet round. A half exchange from end i is Send i, then Arrive at the other end; an exchange is one from end 0, then one from end 1.
-- Assumes nothing.
use Rattle.std.specs.Prelude.{Some, None}
use Prim.Native.Nat.{ℕ, zero, suc, pred, ◌+◌, ◌-◌, ◌<◌, ◌≤◌}
use mathlib.Core.Path.{◌≡◌, refl, sym, ap, subst, ◌∙◌}
use mathlib.Core.Logic.{◌≢◌, ◌⊎◌, inl, inr, ⊎_elim, by_cases}
use native.Mathlib.Decide.{ℕ_discrete}
use mathlib.Core.Bool.{Bool, true, false}
use mathlib.Core.List.{List, [], ◌∷◌, ◌++◌}
use native.Mathlib.Omega.{arith}
use native.Mathlib.Nat.{le_of_eq}
use borrow.Author.Tests.{leb-true}
use lib.Dec.{leb}
use lib.ListN.{length, take}
use Rattle.packets.specs.declared.Packet.{Packet}
use Rattle.line.specs.Line.{on_line, is_full}
use Rattle.line.proofs.OnLine.{length-on}
use Rattle.setup.specs.declared.Setup.{Setup}
use Rattle.receiver.specs.declared.Owed.TheVariants as Owed
use Rattle.ends.specs.declared.End.{End}
use Rattle.ends.specs.Sends.{send_of}
use Rattle.pairs.specs.declared.Pair.{Pair}
use Rattle.pairs.specs.Pairs.{end_at, line_at, other}
use Rattle.rounds.specs.Rounds.{did, exchange}
use Rattle.quiet.specs.Quiet.{Calm}
use Rattle.quiet.proofs.Fresh.{fresh-few}
use Rattle.quiet.proofs.Calm.{calm_few, calm_all}
use Rattle.law.proofs.Moves.{View, view_swap, load, Went, Sending, none_applies, line_full, it_went, send_moves, Came, Arriving, line_empty, it_came, arrive_moves}

-- ---- a half exchange

abbrev pub half : Pair → ℕ → Pair
half p i = did (did p 2 i) 3 (other i)

-- nothing moves: end i has nothing to send and nothing is on the line from it
pub record Still (p : Pair) (i : ℕ) : Type 0 where
  pub nothing : (send_of (end_at p i)).frame ≡ None
  pub owes_none : (end_at p i).receiver.reply.owed ≡ Owed.Nothing
  pub empty : (line_at p (other i)).len ≡ 0

pub record Half (near far : Setup) (a u b v : List Packet) (n m : ℕ) (p : Pair) (i : ℕ) (p' : Pair) : Type 0 where
  pub view : View near far a u b v (pred n) m p' i
  pub short : (line_at p' (other i)).len ≤ 15
  pub to_same : line_at p' i ≡ line_at p i
  -- where the line had room, what was owed at end i has left
  pub owes_none : (line_at p (other i)).len ≤ 15 → (end_at p' i).receiver.reply.owed ≡ Owed.Nothing
  -- where no old frame was on the line, no Nak becomes owed at the other end
  pub no_nak : n ≡ 0 → (end_at p (other i)).receiver.reply.owed ≢ Owed.Nak → (end_at p' (other i)).receiver.reply.owed ≢ Owed.Nak
  pub calm : (k : ℕ) → (end_at p i).receiver.reply.owed ≢ Owed.Nak → Calm k (on_line (line_at p (other i))) → Calm (pred k) (on_line (line_at p' (other i)))
  -- where the line had room and no Nak is about, fewer arrivals are to come, or nothing moved
  pub falls : (line_at p (other i)).len ≤ 15 → (end_at p i).receiver.reply.owed ≢ Owed.Nak → Calm 0 (on_line (line_at p (other i)))
      → (load p' i < load p i) ⊎ ((p' ≡ p) × Still p i)

pub load_swap : (p : Pair) (i : ℕ) → i < 2 → load p (other i) ≡ load p i
load_swap p i h = let e : other (other i) ≡ i = omega arith in rw e (omega arith)

-- ---- Send

-- the pair after Send at end i
record AfterSend (near far : Setup) (a u b v : List Packet) (n m : ℕ) (p : Pair) (i : ℕ) (p' : Pair) : Type 0 where
  view : View near far a u b v n m p' i
  to_same : line_at p' i ≡ line_at p i
  it_same : end_at p' (other i) ≡ end_at p (other i)
  owes_none : (line_at p (other i)).len ≤ 15 → (end_at p' i).receiver.reply.owed ≡ Owed.Nothing
  calm : (k : ℕ) → (end_at p i).receiver.reply.owed ≢ Owed.Nak → Calm k (on_line (line_at p (other i))) → Calm k (on_line (line_at p' (other i)))
  load_same : load p' i ≡ load p i
  -- a frame is on the line, or nothing moved
  moved : (0 < (line_at p' (other i)).len) ⊎ ((p' ≡ p) × Still p i)

full_long : (len : ℕ) → leb 16 len ≡ true → 16 ≤ len
full_long len e = leb-true 16 len e

after-send : {near far : Setup} {a u b v : List Packet} {n m : ℕ} {p : Pair} {i : ℕ} {p' : Pair} → View near far a u b v n m p i
    → Sending near far a u b v n m p i p' → AfterSend near far a u b v n m p i p'
after-send {p = p} {i = i} w (none_applies e o) =
    record {
      view = w;
      to_same = refl;
      it_same = refl;
      owes_none = λ z. o;
      calm = λ k z c. c;
      load_same = refl;
      moved =
          by_cases (ℕ_discrete (line_at p (other i)).len 0)
          (λ z. inr (refl, record { nothing = e; owes_none = o; empty = z }))
          (λ z. inl (omega arith));
    }
after-send {p = p} {i = i} w (line_full t) =
    let long = full_long (line_at p (other i)).len t in
    record {
      view = w;
      to_same = refl;
      it_same = refl;
      owes_none = λ z. absurd (omega arith);
      calm = λ k z c. c;
      load_same = refl;
      moved = inl (omega arith);
    }
after-send w (it_went g) =
    record {
      view = g.view;
      to_same = g.to_same;
      it_same = g.it_same;
      owes_none = λ z. g.owes_none;
      calm = g.calm;
      load_same = g.load_same;
      moved = inl (omega (arith, g.longer));
    }

-- ---- then Arrive at the other end

-- where the line is empty, no frame on it is old and it is calm
none_old : {near far : Setup} {a u b v : List Packet} {n m : ℕ} {p : Pair} {i : ℕ} → View near far a u b v n m p i → (line_at p (other i)).len ≡ 0 → n ≡ 0
none_old {p = p} {i = i} w e =
    omega (arith, fresh-few w.turn.sends.fresh, length-on (line_at p (other i)) w.turn.both.from_fits.long w.turn.both.from_fits.room)

none_loud : {near far : Setup} {a u b v : List Packet} {n m k : ℕ} {p : Pair} {i : ℕ} → View near far a u b v n m p i → (line_at p (other i)).len ≡ 0 → Calm k (on_line (line_at p (other i))) → k ≡ 0
none_loud {p = p} {i = i} w e c = omega (arith, calm_few c, length-on (line_at p (other i)) w.turn.both.from_fits.long w.turn.both.from_fits.room)

module _ {near far : Setup} {a u b v : List Packet} {n m : ℕ} {p : Pair} (i : ℕ) (h : i < 2) where
  -- nothing arrives: nothing is on the line
  half_none : {p' : Pair} → AfterSend near far a u b v n m p i p' → (line_at p' (other i)).len ≡ 0 → Half near far a u b v n m p i p'
  half_none {p'} s e =
      let z : n ≡ 0 = none_old s.view e in
      let y : n ≡ pred n = omega arith in
      record {
        view = subst (λ k. View near far a u b v k m p' i) y s.view;
        short = omega arith;
        to_same = s.to_same;
        owes_none = s.owes_none;
        no_nak = λ q k. rw s.it_same k;
        calm = λ k q c.
            let d = s.calm k q c in
            let x : k ≡ pred k = omega (arith, none_loud s.view e d) in
            subst (λ j. Calm j (on_line (line_at p' (other i)))) x d;
        falls = λ room q c. ⊎_elim (λ (some : 0 < (line_at p' (other i)).len). absurd (omega arith)) (λ r. inr r) s.moved;
      }

  half_came : {p' p'' : Pair} → AfterSend near far a u b v n m p i p' → Came far near b v a u m n p' (other i) p'' → Half near far a u b v n m p i p''
  half_came {p'} {p''} s g =
      let twice : other (other i) ≡ i = omega arith in
      let there : other i < 2 = omega arith in
      let line : line_at p'' i ≡ line_at p' i = rw twice at g.from_same in
      let me : end_at p'' i ≡ end_at p' i = rw twice at g.it_same in
      let len : (line_at p' (other i)).len ≤ 16 = s.view.turn.both.from_fits.room in
      record {
        view = subst (λ k. View near far a u b v (pred n) m p'' k) twice (view_swap (other i) there g.view);
        short = omega (arith, g.shorter, len);
        to_same = line ∙ s.to_same;
        owes_none = λ z. ap (λ (e : End). e.receiver.reply.owed) me ∙ s.owes_none z;
        no_nak = λ q k. g.no_nak q (rw s.it_same k);
        calm = λ k q c. g.calm k (s.calm k q c);
        falls = λ room q c.
            inl (omega (arith, g.lighter (s.calm 0 q c), load_swap p' i h, load_swap p'' i h, s.load_same));
      }

  half_by : {p' p'' : Pair} → AfterSend near far a u b v n m p i p' → Arriving far near b v a u m n p' (other i) p'' → Half near far a u b v n m p i p''
  half_by s (line_empty e) = half_none s e
  half_by s (it_came g) = half_came s g

  pub half_does : View near far a u b v n m p i → Half near far a u b v n m p i (half p i)
  half_does w =
      let s = after-send w (send_moves h w) in
      half_by s (arrive_moves (omega arith) (view_swap i h s.view))
