-- `memory::sending::write_place` meets its contract: two words are spelt out.
-- Assumes nothing.
use native.Mathlib.Omega.{arith}
use Rattle.memory.proofs.SendingLaws.{place_at, place_none}
use Rattle.memory.proofs.sending.write_place.Goals as goal

pub returns-in-Some : goal.returns-in-Some
returns-in-Some c =
    let both = place_at c.args.x.now (omega arith) _ _ c.in-Some.is in
    record { x_after = both.0; x_len = both.1 }

pub returns-in-None : goal.returns-in-None
returns-in-None c =
    let both = place_none c.args.x.now (omega arith) _ c.in-None.is in
    record { x_after = both.0; x_len = both.1 }
