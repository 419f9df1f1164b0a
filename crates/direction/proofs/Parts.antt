-- A direction of which one part alone changes: the frames on its lines, the replay of its sending half, or the reply of its receiving half.
-- Assumes nothing.
use Rattle.std.specs.Prelude.{Some}
use Prim.Native.Nat.{ℕ, ◌≤◌, ◌<◌}
use mathlib.Core.Path.{◌≡◌, ◌∙◌}
use mathlib.Core.List.{List}
use Rattle.line.specs.declared.Slot.{Slot}
use Rattle.setup.specs.declared.Setup.{Setup}
use Rattle.sender.specs.declared.Replay.{Replay}
use Rattle.sender.specs.declared.Sender.{Sender}
use Rattle.sender.specs.Sender.{with_replay}
use Rattle.sender.proofs.Arrays.{arrays_replay}
use Rattle.receiver.specs.declared.Reply.{Reply}
use Rattle.receiver.specs.declared.Receiver.{Receiver}
use Rattle.receiver.specs.Receiver.{with_reply}
use Rattle.receipts.proofs.Arrays.{arrays_reply}
use Rattle.amounts.specs.Amounts.{allowed}
use Rattle.traffic.specs.Traffic.{Forth, Acks, Updates}
use Rattle.direction.specs.Direction.{Past, Direction}

module _ {link : Setup} {g : Past} {s : Sender} {forth back : List Slot} {r : Receiver} (i : Direction link g s forth r back) where
  -- other frames on the lines
  pub lines_keep : {forth' back' : List Slot} → Forth g.sent g.got forth' → Acks g.acked g.got back'
      → Updates link.n g.limit (allowed link g.taken) back' → Direction link g s forth' r back'
  lines_keep packets acks updates =
      record {
        s_arrays = i.s_arrays;
        r_arrays = i.r_arrays;
        numbers = i.numbers;
        sending = i.sending;
        crediting = i.crediting;
        receiving = i.receiving;
        rooming = i.rooming;
        forth_ok = packets;
        acks_ok = acks;
        updates_ok = updates;
      }

  -- another replay, whose next packet is in the buffer
  pub replay-keeps : (x : Replay) → ((k : ℕ) → x.at ≡ Some k → k < s.buffer.len) → x.count ≤ 3 → Direction link g (with_replay s x) forth r back
  replay-keeps x inside few =
      record {
        s_arrays = arrays_replay s i.s_arrays x;
        r_arrays = i.r_arrays;
        numbers = i.numbers;
        sending =
            record {
              next_is = i.sending.next_is;
              acked_is = i.sending.acked_is;
              buffer_is = i.sending.buffer_is;
              buffer_len = i.sending.buffer_len;
              replay_in_lem = inside;
              count_fits = few;
              known = i.sending.known;
              formed = i.sending.formed;
              queue = i.sending.queue;
              few = i.sending.few;
              small = i.sending.small;
            };
        crediting = record { limit_is = i.crediting.limit_is; consumed_is = i.crediting.consumed_is; within = i.crediting.within };
        receiving = i.receiving;
        rooming = i.rooming;
        forth_ok = i.forth_ok;
        acks_ok = i.acks_ok;
        updates_ok = i.updates_ok;
      }

  -- another reply with the same next-receive
  pub reply-keeps : (x : Reply) → x.next_receive ≡ r.reply.next_receive → Direction link g s forth (with_reply r x) back
  reply-keeps x same =
      record {
        s_arrays = i.s_arrays;
        r_arrays = arrays_reply r i.r_arrays x;
        numbers = i.numbers;
        sending = i.sending;
        crediting = i.crediting;
        receiving = record { next_is = same ∙ i.receiving.next_is; inbox = i.receiving.inbox; known = i.receiving.known; marks = i.receiving.marks };
        rooming = record { allocated_is = i.rooming.allocated_is; received_is = i.rooming.received_is };
        forth_ok = i.forth_ok;
        acks_ok = i.acks_ok;
        updates_ok = i.updates_ok;
      }
