-- What 1,024 exchanges bring: 16 take the old frames off the lines, one more sends a Nak that is owed, 16 more take the Naks off the lines; from then
-- on each exchange lowers the number of arrivals to come, or nothing moves any more. Assumes nothing.
use Rattle.std.specs.Prelude.{Some, None, Option}
use Rattle.frames.specs.declared.Frame.{Frame}
use Prim.Native.Nat.{ℕ, zero, suc, pred, ◌+◌, ◌-◌, ◌*◌, ◌<◌, ◌≤◌}
use mathlib.Core.Path.{◌≡◌, refl, sym, ap, subst, ◌∙◌}
use mathlib.Core.Logic.{◌≢◌, ◌⊎◌, inl, inr, ⊎_elim}
use mathlib.Core.List.{List, []}
use native.Mathlib.Omega.{arith}
use borrow.Author.Tests.{eq-eqb}
use lib.ListN.{length, take}
use Rattle.packets.specs.declared.Packet.{Packet}
use Rattle.line.specs.Line.{on_line, front_of}
use Rattle.line.proofs.OnLine.{length-on}
use Rattle.setup.specs.declared.Setup.{Setup}
use Rattle.setup.specs.Setup.{channels}
use Rattle.receiver.specs.declared.Owed.{Owed}
use Rattle.receiver.specs.declared.Owed.TheVariants as Owed
use Rattle.ends.specs.Ends.{arrive_of}
use Rattle.ends.specs.Sends.{send_of}
use Rattle.pairs.specs.declared.Pair.{Pair}
use Rattle.pairs.specs.Pairs.{Done}
use Rattle.pairs.specs.Pairs.{end_at, line_at, other, carried, send_at, on_front, reached, reach_at}
use Rattle.rounds.specs.Rounds.{did, exchange, times}
use Rattle.rows.proofs.Times.{times-add, times-keeps, counts_down, comes_to_rest}
use Rattle.quiet.specs.Quiet.{Calm}
use Rattle.quiet.proofs.Calm.{calm_all}
use Rattle.quiet.proofs.Most.{burden-most, weight-most}
use Rattle.law.proofs.Moves.{View, view_swap, load, send-step, arrive-step}
use Rattle.law.proofs.Exchanges.{half, Still, Half, half_does, load_swap}

nothing-no-nak : {x : Owed} → x ≡ Owed.Nothing → x ≢ Owed.Nak
nothing-no-nak e z = let y : ◌≡◌ {A = ℕ} 0 1 = cc in omega arith

-- ---- what holds after some exchanges

-- nothing moves any more
pub record Rest (p : Pair) : Type 0 where
  pub from_0 : Still p 0
  pub from_1 : Still p 1

module _ (near far : Setup) (a u b v : List Packet) where
  -- at most k frames on a line are old
  pub record Old (k : ℕ) (p : Pair) : Type 0 where
    pub n : ℕ
    pub m : ℕ
    pub n_few : n ≤ k
    pub m_few : m ≤ k
    pub view : View near far a u b v n m p 0
    pub short_to : (line_at p 0).len ≤ 15
    pub short_from : (line_at p 1).len ≤ 15

  -- no Nak is owed, and none stands on a line past its first k frames
  pub record Calming (k : ℕ) (p : Pair) : Type 0 where
    pub view : View near far a u b v 0 0 p 0
    pub short_to : (line_at p 0).len ≤ 15
    pub short_from : (line_at p 1).len ≤ 15
    pub no-nak-here : (end_at p 0).receiver.reply.owed ≢ Owed.Nak
    pub no-nak-there : (end_at p 1).receiver.reply.owed ≢ Owed.Nak
    pub i : ℕ
    pub j : ℕ
    pub i_few : i ≤ k
    pub j_few : j ≤ k
    pub calm_to : Calm i (on_line (line_at p 0))
    pub calm_from : Calm j (on_line (line_at p 1))

module _ {near far : Setup} {a u b v : List Packet} where
  -- ---- the two halves of an exchange

  module _ {n m : ℕ} {p : Pair} (w : View near far a u b v n m p 0) where
    abbrev p₁ : Pair
    p₁ = half p 0

    abbrev p₂ : Pair
    p₂ = half p₁ 1

    first : Half near far a u b v n m p 0 p₁
    first = half_does 0 (omega arith) w

    second : Half far near b v a u m (pred n) p₁ 1 p₂
    second = half_does 1 (omega arith) (view_swap 0 (omega arith) first.view)

    after_both : View near far a u b v (pred n) (pred m) p₂ 0
    after_both = view_swap 1 (omega arith) second.view

    short_0 : (line_at p₂ 0).len ≤ 15
    short_0 = second.short

    short_1 : (line_at p₂ 1).len ≤ 15
    short_1 = rw second.to_same first.short

    -- where no frame was old and both lines had room, no Nak is owed
    no-nak_0 : m ≡ 0 → (line_at p 1).len ≤ 15 → (end_at p₂ 0).receiver.reply.owed ≢ Owed.Nak
    no-nak_0 z room = second.no_nak z (nothing-no-nak (first.owes_none room))

    no-nak_1 : (line_at p 0).len ≤ 15 → (end_at p₂ 1).receiver.reply.owed ≢ Owed.Nak
    no-nak_1 room = nothing-no-nak (second.owes_none (rw first.to_same room))

  -- ---- old frames

  old_first : {n m : ℕ} {p : Pair} → n ≤ 16 → m ≤ 16 → View near far a u b v n m p 0 → Old near far a u b v 15 (exchange p)
  unfolding exchange
  old_first {n} {m} h k w =
      record {
        n = pred n;
        m = pred m;
        n_few = omega arith;
        m_few = omega arith;
        view = after_both w;
        short_to = short_0 w;
        short_from = short_1 w;
      }

  old_fewer : (k : ℕ) (p : Pair) → Old near far a u b v k p → Old near far a u b v (pred k) (exchange p)
  unfolding exchange
  old_fewer k p o =
      record {
        n = pred o.n;
        m = pred o.m;
        n_few = omega (arith, o.n_few);
        m_few = omega (arith, o.m_few);
        view = after_both o.view;
        short_to = short_0 o.view;
        short_from = short_1 o.view;
      }

  -- ---- no Nak is owed, and none stands on a line past its first k frames

  calm_first : (p : Pair) → Old near far a u b v 0 p → Calming near far a u b v 16 (exchange p)
  unfolding exchange
  calm_first p o =
      let x : o.n ≡ 0 = omega (arith, o.n_few) in
      let y : o.m ≡ 0 = omega (arith, o.m_few) in
      let nx : pred o.n ≡ 0 = omega arith in
      let ny : pred o.m ≡ 0 = omega arith in
      let w = after_both o.view in
      let l0 = length-on (line_at (p₂ o.view) 0) w.turn.both.to_fits.long w.turn.both.to_fits.room in
      let l1 = length-on (line_at (p₂ o.view) 1) w.turn.both.from_fits.long w.turn.both.from_fits.room in
      record {
        view = subst (λ k. View near far a u b v k 0 (p₂ o.view) 0) nx (subst (λ k. View near far a u b v (pred o.n) k (p₂ o.view) 0) ny w);
        short_to = short_0 o.view;
        short_from = short_1 o.view;
        no-nak-here = no-nak_0 o.view y o.short_from;
        no-nak-there = no-nak_1 o.view o.short_to;
        i = length (on_line (line_at (p₂ o.view) 0));
        j = length (on_line (line_at (p₂ o.view) 1));
        i_few = omega (arith, l0, w.turn.both.to_fits.room);
        j_few = omega (arith, l1, w.turn.both.from_fits.room);
        calm_to = calm_all (on_line (line_at (p₂ o.view) 0));
        calm_from = calm_all (on_line (line_at (p₂ o.view) 1));
      }

  calm_fewer : (k : ℕ) (p : Pair) → Calming near far a u b v k p → Calming near far a u b v (pred k) (exchange p)
  unfolding exchange
  calm_fewer k p c =
      let f = first c.view in
      let s = second c.view in
      record {
        view = after_both c.view;
        short_to = short_0 c.view;
        short_from = short_1 c.view;
        no-nak-here = no-nak_0 c.view refl c.short_from;
        no-nak-there = no-nak_1 c.view c.short_to;
        i = pred c.i;
        j = pred c.j;
        i_few = omega (arith, c.i_few);
        j_few = omega (arith, c.j_few);
        calm_to = s.calm c.i (f.no_nak refl c.no-nak-there) (rw f.to_same c.calm_to);
        calm_from = rw s.to_same (f.calm c.j c.no-nak-here c.calm_from);
      }

  -- ---- from then on

  quiet_line : {p : Pair} (c : Calming near far a u b v 0 p) → Calm 0 (on_line (line_at p 1))
  quiet_line {p} c = let e : c.j ≡ 0 = omega (arith, c.j_few) in subst (λ k. Calm k (on_line (line_at p 1))) e c.calm_from

  quiet_line_to : {p : Pair} (c : Calming near far a u b v 0 p) → Calm 0 (on_line (line_at p 0))
  quiet_line_to {p} c = let e : c.i ≡ 0 = omega (arith, c.i_few) in subst (λ k. Calm k (on_line (line_at p 0))) e c.calm_to

  falls : (p : Pair) → Calming near far a u b v 0 p → Rest p ⊎ (load (exchange p) 0 < load p 0)
  unfolding exchange
  falls p c =
      let f = first c.view in
      let s = second c.view in
      let x = f.falls c.short_from c.no-nak-here (quiet_line c) in
      let y = s.falls (rw f.to_same c.short_to) (f.no_nak refl c.no-nak-there) (rw f.to_same (quiet_line_to c)) in
      join x y
    where
      join : {p₁ p₂ : Pair} → (load p₁ 0 < load p 0) ⊎ ((p₁ ≡ p) × Still p 0) → (load p₂ 1 < load p₁ 1) ⊎ ((p₂ ≡ p₁) × Still p₁ 1)
          → Rest p ⊎ (load p₂ 0 < load p 0)
      join {p₁} {p₂} (inl x) (inl y) = inr (omega (arith, load_swap p₁ 0 (omega arith), load_swap p₂ 0 (omega arith)))
      join {p₁} {p₂} (inl x) (inr y) = inr (rw y.0 x)
      join {p₁} {p₂} (inr x) (inl y) =
          let z = rw x.0 at y in
          inr (omega (arith, load_swap p 0 (omega arith), load_swap p₂ 0 (omega arith)))
      join {p₁} {p₂} (inr x) (inr y) = inl record { from_0 = x.1; from_1 = subst (λ q. Still q 1) x.0 y.1 }

  -- ---- a pair in which nothing moves stays as it is

  still_send : {n m : ℕ} {p : Pair} (i : ℕ) → i < 2 → View near far a u b v n m p i → Still p i → did p 2 i ≡ p
  unfolding send_at
  still_send {p = p} i h w s = send-step i h w ∙ ap (λ (f : Option Frame). (carried p i (send_of (end_at p i)) f).pair) s.nothing

still_arrive : {near far : Setup} {a u b v : List Packet} {n m : ℕ} {p : Pair} (i : ℕ) → i < 2 → View near far a u b v n m p i → (line_at p i).len ≡ 0 → did p 3 i ≡ p
unfolding reach_at
still_arrive {p = p} i h w e =
    let nothing : front_of (line_at p i) ≡ None = rw (eq-eqb (line_at p i).len 0 e) in
    arrive-step i h w ∙ ap (λ (f : Option Frame). (on_front p f (λ x. reached p i (arrive_of (end_at p i) x))).pair) nothing

pub rest_stays : {near far : Setup} {a u b v : List Packet} {n m : ℕ} {p : Pair} → View near far a u b v n m p 0 → Rest p → exchange p ≡ p
unfolding exchange
rest_stays {p = p} w r =
    let there = view_swap 0 (omega arith) w in
    let s0 : did p 2 0 ≡ p = still_send 0 (omega arith) w r.from_0 in
    let a1 : did p 3 1 ≡ p = still_arrive 1 (omega arith) there r.from_0.empty in
    let s1 : did p 2 1 ≡ p = still_send 1 (omega arith) there r.from_1 in
    let a0 : did p 3 0 ≡ p = still_arrive 0 (omega arith) w r.from_1.empty in
    rw (s0, a1, s1, a0)

-- ---- 1,024 exchanges

-- 1,024 is 991 and 16 and 1 and 15 and 1
times_one : (p : Pair) → times 1 exchange p ≡ exchange p
unfolding times
times_one p = refl

in_parts : (p : Pair) → times 1024 exchange p ≡ times 991 exchange (times 16 exchange (exchange (times 15 exchange (exchange p))))
in_parts p =
    let a : times 16 exchange p ≡ times 15 exchange (exchange p) = times-add exchange 15 1 p ∙ ap (times 15 exchange) (times_one p) in
    let b : times 17 exchange p ≡ exchange (times 15 exchange (exchange p)) = times-add exchange 1 16 p ∙ times_one (times 16 exchange p) ∙ ap exchange a in
    let c : times 33 exchange p ≡ times 16 exchange (exchange (times 15 exchange (exchange p))) = times-add exchange 16 17 p ∙ ap (times 16 exchange) b in
    times-add exchange 991 33 p ∙ ap (times 991 exchange) c

-- how many arrivals may be to come
abbrev pub most : ℕ
most = 2 * (2 * (24 * channels) + 2 * 16 + 1 + 3 * channels) + 2 * (2 * 15)

module _ (near far : Setup) (a u b v : List Packet) where
  load-most : (p : Pair) → Calming near far a u b v 0 p → load p 0 ≤ most
  load-most p c =
      let w = c.view.turn.both in
      let l0 = length-on (line_at p 0) w.to_fits.long w.to_fits.room in
      let l1 = length-on (line_at p 1) w.from_fits.long w.from_fits.room in
      omega (
        arith,
        burden-most w.sends w.receives.r_arrays,
        burden-most w.receives w.sends.r_arrays,
        weight-most (on_line (line_at p 0)),
        weight-most (on_line (line_at p 1)),
        c.short_to,
        c.short_from,
      )

  -- the pair at rest
  pub record Rested (p : Pair) : Type 0 where
    pub calm : Calming near far a u b v 0 p
    pub rest : Rest p

  still_good : (p : Pair) → Calming near far a u b v 0 p → Calming near far a u b v 0 (exchange p)
  still_good p c = calm_fewer 0 p c

  -- 33 exchanges, then as many as there may be arrivals to come
  pub comes : {n m : ℕ} (p : Pair) → n ≤ 16 → m ≤ 16 → View near far a u b v n m p 0 → Rested (times 1024 exchange p)
  comes p h k w =
      let p1 : Old near far a u b v 15 (exchange p) = old_first h k w in
      let p16 : Old near far a u b v 0 (times 15 exchange (exchange p)) = counts_down exchange (λ j q. Old near far a u b v j q) old_fewer 15 15 (exchange p) p1 in
      let p17 = calm_first (times 15 exchange (exchange p)) p16 in
      let p33 : Calming near far a u b v 0 (times 16 exchange (exchange (times 15 exchange (exchange p)))) =
      counts_down exchange (λ j q. Calming near far a u b v j q) calm_fewer 16 16 (exchange (times 15 exchange (exchange p))) p17 in
      let q = times 16 exchange (exchange (times 15 exchange (exchange p))) in
      let end : Rest (times 991 exchange q) =
      comes_to_rest exchange (λ r. Calming near far a u b v 0 r) Rest (λ r. load r 0) still_good falls (λ r c s. subst Rest (sym (rest_stays c.view s)) s) 991 q p33 (omega (arith, load-most q p33)) in
      let good : Calming near far a u b v 0 (times 991 exchange q) = times-keeps exchange (λ r. Calming near far a u b v 0 r) still_good 991 q p33 in
      let same : times 1024 exchange p ≡ times 991 exchange q = in_parts p in
      rw same record { calm = good; rest = end }
