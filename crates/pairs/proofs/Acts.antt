-- The steps by their numbers; Timer and Refresh need no law.
-- Assumes nothing.
use Rattle.std.specs.Prelude.{if◌then◌else◌}
use Prim.Native.Nat.{ℕ}
use mathlib.Core.Path.{◌≡◌}
use Rattle.script.specs.declared.Step.{Step}
use Rattle.ends.specs.Ends.{submit_of, arrive_of, damage_of, take_at}
use Rattle.pairs.specs.declared.Pair.{Pair}
use Rattle.pairs.specs.Pairs.{end_at, by_end, send_at, reach_at, lose_at}
use Rattle.pairs.specs.Steps.{packet_of, act}

module _ (p : Pair) (t : Step) where
  pub submits : t.step ≡ 1 → by_end p t.end (submit_of (end_at p t.end) (packet_of t)) ≡ act p t
  unfolding act
  submits e = simp (act, e)

  pub sends : t.step ≡ 2 → send_at p t.end ≡ act p t
  unfolding act
  sends e = simp (act, e)

  pub arrives : t.step ≡ 3 → reach_at arrive_of p t.end ≡ act p t
  unfolding act
  arrives e = simp (act, e)

  pub damages : t.step ≡ 4 → reach_at damage_of p t.end ≡ act p t
  unfolding act
  damages e = simp (act, e)

  pub loses : t.step ≡ 5 → lose_at p t.end ≡ act p t
  unfolding act
  loses e = simp (act, e)

  pub takes : t.step ≡ 6 → by_end p t.end (take_at (end_at p t.end) t.class t.kind) ≡ act p t
  unfolding act
  takes e = simp (act, e)
