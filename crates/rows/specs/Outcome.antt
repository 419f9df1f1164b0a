-- What may come of a step of the pair: it is refused, or it is done. Document 01: "Refused steps change nothing", "A refusal's detail is 0".
-- Assumes nothing.
use Rattle.std.specs.Prelude.{ℕ, ◌≡◌, ◌≢◌, length}
use Rattle.pairs.specs.declared.Pair.{Pair}
use Rattle.pairs.specs.Pairs.{Done}
use Rattle.pairs.specs.Pairs.{done}

-- two ends and two lines
abbrev pub Two : Pair → Type 0
Two p = (length p.ends ≡ 2) × (length p.lines ≡ 2)

-- one that is done leaves as many ends and lines as there were
pub data Outcome (p : Pair) : Done → Type 0 where
  refuses : {n : ℕ} → n ≢ 0 → Outcome p (done p n 0)
  does : {q : Pair} {detail : ℕ} → length q.ends ≡ length p.ends → length q.lines ≡ length p.lines → Outcome p (done q 0 detail)
