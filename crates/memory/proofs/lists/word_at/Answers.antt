-- `memory::lists::word_at` meets its contract: below the size the word stands at its place.
-- Assumes nothing.
use native.Mathlib.Omega.{arith}
use mathlib.Core.Path.{sym}
use lib.ListN.{get_or-eq_default}
use Rattle.store.specs.Store.{held, no_packet}
use Rattle.words.specs.Memory.{packets_in}
use Rattle.memory.proofs.ListsLaws.{word-is}
use Rattle.memory.proofs.lists.word_at.Goals as goal

pub returns-then-i-size : goal.returns-then-i-size
returns-then-i-size c =
    word-is c.args.q.now c.requires c.args.i (omega (arith, c.size.ensures.value)) (omega (arith, c.size.ensures.upper_bound))

pub returns : goal.returns
returns c =
    sym (get_or-eq_default (held (packets_in c.args.q.now)) no_packet {n = c.args.i} (omega (arith, c.size.ensures.value)))
