-- `memory::sending::sent_new` meets its contract: the queue, the credit, the buffer and the number change one after the other.
-- Assumes nothing.
use native.Mathlib.Omega.{arith}
use borrow.Rule.Slice.PartMut.{put_mid}
use Prim.Native.Nat.{◌<◌}
use mathlib.Core.Path.{◌≡◌, ◌∙◌, ap}
use lib.ListN.{length}
use Rattle.counters.specs.Counters.{next_of}
use Rattle.store.specs.declared.Packets.{Packets}
use Rattle.store.specs.Store.{pushed, removed}
use Rattle.setup.specs.Setup.{channels}
use Rattle.words.specs.Words.{packet_in}
use Rattle.words.specs.Memory.{list_words, buffer_at, sender_words}
use Rattle.memory.proofs.SendingLaws.{queue-read, queue-back, buffer_read, buffer_back, next-back, sent-steps}
use Rattle.memory.proofs.sending.sent_new.Goals as goal

pub returns : goal.returns
returns c =
    let l : length c.args.s.now ≡ sender_words = omega arith in
    let h : c.args.channel < channels = omega arith in
    let gone =
    queue-back c.args.s.now l c.args.channel h c.remove.new.q _ c.remove.ensures.q_len
    (c.remove.ensures.q_after ∙ ap (λ (q : Packets). removed q c.args.place) (queue-read c.args.s.now l c.args.channel h)) in
    let entered =
    buffer_back c.spend.new.s c.spend.ensures.s_len c.push.new.q _ c.push.ensures.q_len
    (c.push.ensures.q_after ∙ ap (λ (q : Packets). pushed q (packet_in c.new_word-w.result)) (buffer_read c.spend.new.s c.spend.ensures.s_len)) in
    let numbered =
    next-back (put_mid buffer_at list_words c.spend.new.s c.push.new.q) entered.1 c.to_word.result c.next.result c.to_word.ensures.result_value (c.next.ensures ∙ ap next_of c.from_word.ensures) in record { s_after = sent-steps _ c.args.channel c.args.place h _ _ _ _ _ c.new_word-w.ensures gone.0 c.spend.ensures.s_after entered.0 numbered.0; s_len = numbered.1 }
