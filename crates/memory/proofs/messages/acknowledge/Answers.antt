-- `memory::messages::acknowledge` meets its contract: the buffer, the number and the replay change one after the other.
-- Assumes nothing.
use native.Mathlib.Omega.{arith}
use borrow.Rule.Slice.PartMut.{put_mid}
use mathlib.Core.Path.{◌≡◌, ◌∙◌, ap}
use lib.ListN.{length, set}
use Rattle.store.specs.declared.Packets.{Packets}
use Rattle.store.specs.Store.{released}
use Rattle.hearing.specs.Hearing.{moved}
use Rattle.words.specs.Memory.{list_words, buffer_at, acked_at, sender_words}
use Rattle.words.proofs.Sending.{out_is}
use Rattle.memory.proofs.SendingLaws.{buffer_read, buffer_back, acked-back, replay-back}
use Rattle.memory.proofs.MessageLaws.{releases-read, released-long, acknowledged-steps}
use Rattle.memory.proofs.messages.acknowledge.Goals as goal

pub slice_bounds-write_replay-end : goal.slice_bounds-write_replay-end
slice_bounds-write_replay-end c =
    let l : length c.args.s.now ≡ sender_words = omega arith in
    omega (arith, released-long c.args.s.now l c.release.new.q c.to_word.result c.release.ensures.q_len)

pub returns : goal.returns
returns c =
    let l : length c.args.s.now ≡ sender_words = omega arith in
    let freed =
    buffer_back c.args.s.now l c.release.new.q _ c.release.ensures.q_len
    (c.release.ensures.q_after ∙ ap (λ (q : Packets). released q c.sub-k.result.0) (buffer_read c.args.s.now l)) in
    let t = put_mid buffer_at list_words c.args.s.now c.release.new.q in
    let stored = acked-back t freed.1 c.to_word.result c.args.number c.to_word.ensures.result_value in
    let shifted = replay-back (set t acked_at c.to_word.result) stored.1 c.write_replay.new.x _ c.write_replay.ensures.x_len c.write_replay.ensures.x_after in record {
      s_after = acknowledged-steps _ c.args.number _ _ _ c.sub-k.result.0 c.moved.result c.replay-running.result c.replay-running.ensures
          (releases-read c.args.s.now l c.args.number _ _ c.from_word.ensures c.sub-k.ensures)
          freed.0
          (c.moved.ensures ∙ ap (λ n. moved c.sub-k.result.0 n c.replay-running.result.at) (out_is t freed.1))
          stored.0
          shifted.0;
      s_len = shifted.1;
    }
