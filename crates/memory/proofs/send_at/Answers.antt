-- `memory::send_at` meets its contract: no frame applies, the line is full, or the frame goes on it.
-- Assumes nothing.
use Rattle.std.proofs.lemmas.Result.{err_from_is_err_and}
use Rattle.memory.proofs.PairLaws.{send-none, send_full, send_gives}
use Rattle.memory.proofs.send_at.Goals as goal

pub returns-in_err-source-clause-value : goal.returns-in_err-source-clause-value
returns-in_err-source-clause-value c =
    let p = err_from_is_err_and c.from_residual.result c.from_residual.ensures.1 in
    rw (p.1, p.2)
    (send-none c.args.links c.args.m.now c.requires.0 c.args.i c.requires.1 c.first_source.result c.first_source.ensures c.in_err-source.ensures.ok_part _ c.in_err-source.ensures.value)

pub returns-then-is_full-clause-value : goal.returns-then-is_full-clause-value
returns-then-is_full-clause-value c =
    send_full c.args.links c.args.m.now c.requires.0 c.args.i c.requires.1 c.first_source.result c.first_source.ensures c.in_ok-source.source c.in_ok-source.ensures.ok_part
    c.is_full.result c.is_full.ensures c.if-is_full.true

pub returns-clause-value : goal.returns-clause-value
returns-clause-value c =
    send_gives c.args.links c.args.m.now c.requires.0 c.args.i c.requires.1 c.first_source.result c.first_source.ensures c.in_ok-source.source c.in_ok-source.ensures.ok_part
    c.is_full.result c.is_full.ensures c.if-is_full.false c.give-g.result c.give-g.new.m c.give-g.ensures.rest_value c.give-g.ensures.m_after c.give-g.ensures.m_len
    c.put.new.l c.put.ensures.l_after c.put.ensures.l_len
