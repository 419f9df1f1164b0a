-- `memory::lose_at` meets its contract: no frame, or the line without it.
-- Assumes nothing.
use Rattle.memory.proofs.PairLaws.{lose_none, lose_one}
use Rattle.memory.proofs.lose_at.Goals as goal

pub returns-then-m-l-eq0-clause-value : goal.returns-then-m-l-eq0-clause-value
returns-then-m-l-eq0-clause-value c = lose_none c.args.links c.args.m.now c.requires.0 c.args.i c.requires.1 c.if-m-l-eq0.true

pub returns-clause-value : goal.returns-clause-value
returns-clause-value c =
    lose_one c.args.links c.args.m.now c.requires.0 c.args.i c.requires.1 c.if-m-l-eq0.false c.leave.new.l c.leave.ensures.l_after c.leave.ensures.l_len
