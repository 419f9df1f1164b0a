-- The pair as one of its ends sees it, and what each change of the pair makes of that view.
-- Assumes nothing.
use Prim.Native.Nat.{ℕ, ◌<◌}
use mathlib.Core.Path.{◌≡◌, refl, sym, subst, ◌∙◌}
use mathlib.Core.Logic.{◌≢◌, by_cases}
use native.Mathlib.Decide.{ℕ_discrete}
use mathlib.Core.Bool.{true}
use mathlib.Core.List.{List, []}
use native.Mathlib.Omega.{arith}
use lib.ListN.{length, get_or, set, length-set}
use lib.Seq.{get_or-set_same, get_or-set_other}
use Rattle.packets.specs.declared.Packet.{Packet}
use Rattle.line.specs.declared.Line.{Line}
use Rattle.line.specs.Line.{empty}
use Rattle.setup.specs.Setup.{blank_setup}
use Rattle.ends.specs.declared.End.{End}
use Rattle.ends.specs.Ends.{end_of}
use Rattle.pairs.specs.declared.Pair.{Pair}
use Rattle.pairs.specs.Pairs.{pair, end_at, line_at, other}
use Rattle.pairs.specs.Steps.{pair_in_shape}
use Rattle.setup.specs.declared.Setup.{Setup}
use Rattle.direction.specs.Direction.{Past}
use Rattle.law.proofs.Pasts.{Grows}
use Rattle.law.proofs.Both.{Both, Next, both_swap, end_in_shape, line_fits_lem}

-- `out` is the past of the direction in which end i sends, `back` that of the direction in which it receives
pub record Seen (near far : Setup) (out back : Past) (p : Pair) (i : ℕ) : Type 0 where
  pub ends_two : length p.ends ≡ 2
  pub lines_two : length p.lines ≡ 2
  pub both : Both near far out back (end_at p i) (end_at p (other i)) (line_at p i) (line_at p (other i))

-- the same pair, seen from the other end
pub seen_other : {near far : Setup} {out back : Past} {p : Pair} (i : ℕ) → i < 2 → Seen near far out back p i → Seen far near back out p (other i)
seen_other {out} {back} {p} i h v =
    let e : other (other i) ≡ i = omega arith in
    record { ends_two = v.ends_two; lines_two = v.lines_two; both = rw e (both_swap v.both) }

-- such a pair is in shape
pub pair_in_shape_lem : {near far : Setup} {out back : Past} {p : Pair} → Seen near far out back p 0 → pair_in_shape p ≡ true
unfolding pair_in_shape
pair_in_shape_lem v =
    rw (end_in_shape v.both, end_in_shape (both_swap v.both), line_fits_lem v.both, line_fits_lem (both_swap v.both))

-- the pair is in shape, seen from either end
pub seen_shape : {near far : Setup} {out back : Past} {p : Pair} (i : ℕ) → i < 2 → Seen near far out back p i → pair_in_shape p ≡ true
seen_shape {near} {far} {out} {back} {p} i h v =
    by_cases (ℕ_discrete i 0)
    (λ e. pair_in_shape_lem (subst (λ k. Seen near far out back p k) e v))
    (λ n.
    let e : other i ≡ 0 = omega arith in
    pair_in_shape_lem (subst (λ k. Seen far near back out p k) e (seen_other i h v)))

pub apart : (i : ℕ) → i < 2 → other i ≢ i
apart i h e = omega arith

-- ---- what a step at end i makes of it

pub record Kept (near far : Setup) (out back : Past) (accepted taken : List Packet) (p : Pair) (i : ℕ) : Type 0 where
  pub out' : Past
  pub back' : Past
  pub out_grows : Grows out accepted [] out'
  pub back_grows : Grows back [] taken back'
  pub seen : Seen near far out' back' p i

-- a pair that has these ends and lines
kept : {near far : Setup} {out back : Past} {accepted taken : List Packet} {me it : End} {to from : Line} {p : Pair} {i : ℕ}
    → length p.ends ≡ 2 → length p.lines ≡ 2 → end_at p i ≡ me → end_at p (other i) ≡ it → line_at p i ≡ to → line_at p (other i) ≡ from
    → Next near far out back accepted taken me it to from → Kept near far out back accepted taken p i
kept two lines me_is it_is to_is from_is n =
    record {
      out' = n.out';
      back' = n.back';
      out_grows = n.out_grows;
      back_grows = n.back_grows;
      seen = record { ends_two = two; lines_two = lines; both = rw (me_is, it_is, to_is, from_is) n.both };
    }

module _ {near far : Setup} {out back : Past} {p : Pair} {i : ℕ} (h : i < 2) (v : Seen near far out back p i) where
  -- another end is stored, or another line to it
  module _ (e : End) where
    two_ends : length (set p.ends i e) ≡ 2
    two_ends = length-set p.ends i e ∙ v.ends_two

    end-here : get_or (set p.ends i e) i (end_of blank_setup) ≡ e
    end-here = get_or-set_same p.ends i e (end_of blank_setup) (omega (arith, v.ends_two))

    end-there : get_or (set p.ends i e) (other i) (end_of blank_setup) ≡ end_at p (other i)
    end-there = get_or-set_other p.ends i (other i) e (end_of blank_setup) (apart i h)

  module _ (l : Line) where
    two_lines : length (set p.lines i l) ≡ 2
    two_lines = length-set p.lines i l ∙ v.lines_two

    line-here : get_or (set p.lines i l) i empty ≡ l
    line-here = get_or-set_same p.lines i l empty (omega (arith, v.lines_two))

    line-there : get_or (set p.lines i l) (other i) empty ≡ line_at p (other i)
    line-there = get_or-set_other p.lines i (other i) l empty (apart i h)

  module _ {accepted taken : List Packet} where
    -- a step of the end alone
    pub kept_end : (e : End) → Next near far out back accepted taken e (end_at p (other i)) (line_at p i) (line_at p (other i))
        → Kept near far out back accepted taken (pair (set p.ends i e) p.lines) i
    kept_end e n = kept (two_ends e) v.lines_two (end-here e) (end-there e) refl refl n

    -- and another line to it
    pub kept_to : (e : End) (l : Line) → Next near far out back accepted taken e (end_at p (other i)) l (line_at p (other i))
        → Kept near far out back accepted taken (pair (set p.ends i e) (set p.lines i l)) i
    kept_to e l n = kept (two_ends e) (two_lines l) (end-here e) (end-there e) (line-here l) (line-there l) n

    -- and another line from it
    pub kept_from : (e : End) (l : Line) → Next near far out back accepted taken e (end_at p (other i)) (line_at p i) l
        → Kept near far out back accepted taken (pair (set p.ends i e) (set p.lines (other i) l)) i
    kept_from e l n =
        kept (two_ends e) (length-set p.lines (other i) l ∙ v.lines_two) (end-here e) (end-there e)
        (get_or-set_other p.lines (other i) i l empty (λ z. apart i h (sym z)))
        (get_or-set_same p.lines (other i) l empty (omega (arith, v.lines_two)))
        n

    -- the end as it was, and another line to it
    pub kept_line : (l : Line) → Next near far out back accepted taken (end_at p i) (end_at p (other i)) l (line_at p (other i))
        → Kept near far out back accepted taken (pair p.ends (set p.lines i l)) i
    kept_line l n = kept v.ends_two (two_lines l) refl refl (line-here l) (line-there l) n

    -- the pair as it was
    pub kept_pair : Next near far out back accepted taken (end_at p i) (end_at p (other i)) (line_at p i) (line_at p (other i)) → Kept near far out back accepted taken p i
    kept_pair n = kept v.ends_two v.lines_two refl refl refl refl n
