-- `store` meets its contract.
-- Assumes nothing.
use Rattle.std.proofs.Common.{rules}
use borrow.Author.Tests.{eq-eqb, ne_eqb}
use mathlib.Core.Path.{◌≡◌, refl}
use lib.ListN.{length}
use Rattle.memory.proofs.KeepLaws.{made_as}
use Rattle.memory.proofs.StoreLaws.{pair-stored}
use Rattle.memory.proofs.store.Goals as goal

pub returns-then-m-ne-WORDS : goal.returns-then-m-ne-WORDS
returns-then-m-ne-WORDS c = record { m_after = simp (ne_eqb _ _ c.if-m-ne-WORDS.true); m_len_unchanged = refl; keeps = λ _. refl }

pub returns : goal.returns
returns c =
    let ends : length c.args.p.ends ≡ 2 = search rules in
    let lines : length c.args.p.lines ≡ 2 = search rules in
    let stored =
    pair-stored c.args.m.now c.if-m-ne-WORDS.false c.store_end.new.m c.store_end-2.new.m c.store_line.new.l c.store_line-2.new.l
    c.store_end.ensures.m_len c.store_end-2.ensures.m_len c.store_line.ensures.l_len c.store_line-2.ensures.l_len
    c.args.p _ _ _ ends lines c.store_end.ensures.m_after c.store_end-2.ensures.m_after c.store_line.ensures.l_after c.store_line-2.ensures.l_after in
    record { m_after = stored.0; m_len_unchanged = stored.1; keeps = made_as _ (eq-eqb _ _ c.if-m-ne-WORDS.false) }
