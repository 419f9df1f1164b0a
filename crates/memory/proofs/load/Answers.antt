-- `memory::load` meets its contract.
-- Assumes nothing.
use Rattle.std.proofs.Common.{rules}
use borrow.Author.Tests.{ne_eqb}
use mathlib.Core.Path.{◌≡◌}
use lib.ListN.{length}
use Rattle.memory.proofs.LoadLaws.{blank_started, pair_read}
use Rattle.memory.proofs.load.Goals as goal

pub returns-then-m-ne-WORDS : goal.returns-then-m-ne-WORDS
returns-then-m-ne-WORDS c = rw (ne_eqb _ _ c.if-m-ne-WORDS.true, c.of.ensures, c.blank.ensures, blank_started)

pub returns : goal.returns
returns c =
    let long : length c.args.links ≡ 2 = search rules in
    pair_read c.args.links c.args.m.now _ _ long c.if-m-ne-WORDS.false
    _ _ _ _ c.end_in-first.ensures c.end_in-second.ensures c.line_in-to_first.ensures c.line_in-to_second.ensures
