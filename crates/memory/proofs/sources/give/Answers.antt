-- `memory::sources::give` meets its contract: the half that a source changes comes back to the words.
-- Assumes nothing.
use mathlib.Core.Path.{refl, sym, ap, ◌∙◌}
use native.Mathlib.Omega.{arith}
use Rattle.std.specs.Prelude.{Some}
use Rattle.words.specs.Memory.{sender_words, receiver_words}
use Rattle.words.proofs.Patched.{length_part}
use Rattle.memory.specs.declared.Source.{Source}
use Rattle.memory.proofs.SourceLaws.{channel_below, slot_below, by_sending, by_receiving}
use Rattle.memory.proofs.sources.give.Goals as goal

pub give_update-requires : goal.give_update-requires
give_update-requires c =
    let e = length_part c.args.m.now sender_words receiver_words (omega arith) in
    (e, slot_below _ _ _ e (ap (λ (y : Source). Some y) (sym c.in-Update.is) ∙ c.requires.1))

pub give_new-requires : goal.give_new-requires
give_new-requires c =
    (length_part c.args.m.now 0 sender_words (omega arith), channel_below _ _ _ _ (ap (λ (y : Source). Some y) (sym c.in-New.is) ∙ c.requires.1))

pub returns-in-Nak-clause-m_after : goal.returns-in-Nak-clause-m_after
returns-in-Nak-clause-m_after c =
    by_receiving c.args.m.now c.requires.0 c.args.x Source.Nak c.in-Nak.is _ refl c.give_reply.ensures.r_after c.give_reply.ensures.r_len

pub returns-in-Ack-clause-m_after : goal.returns-in-Ack-clause-m_after
returns-in-Ack-clause-m_after c =
    by_receiving c.args.m.now c.requires.0 c.args.x Source.Ack c.in-Ack.is _ refl c.give_reply-in-Ack.ensures.r_after c.give_reply-in-Ack.ensures.r_len

pub returns-in-Update-clause-m_after : goal.returns-in-Update-clause-m_after
returns-in-Update-clause-m_after c =
    by_receiving c.args.m.now c.requires.0 c.args.x (Source.Update c.in-Update.slot) c.in-Update.is _ refl c.give_update.ensures.r_after c.give_update.ensures.r_len

pub returns-in-Replay-clause-m_after : goal.returns-in-Replay-clause-m_after
returns-in-Replay-clause-m_after c =
    by_sending c.args.m.now c.requires.0 c.args.x (Source.Replay c.in-Replay.place) c.in-Replay.is _ refl c.give_replay.ensures.s_after c.give_replay.ensures.s_len

pub returns-in-New-clause-m_after : goal.returns-in-New-clause-m_after
returns-in-New-clause-m_after c =
    by_sending c.args.m.now c.requires.0 c.args.x (Source.New c.in-New.channel c.in-New.place) c.in-New.is _ refl c.give_new.ensures.s_after c.give_new.ensures.s_len
