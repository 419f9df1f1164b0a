-- How many arrivals are still to come of what an end has and of what is on a line, where no replay starts: 2 for each packet, since its Ack
-- comes back, and 1 for each link message. Assumes nothing.
use Rattle.std.specs.Prelude.{ℕ, zero, suc, ◌+◌, ◌-◌, ◌*◌, List, length, Some, None, Option}
use Rattle.basics.specs.Lists.{total, filter}
use Rattle.frames.specs.declared.Frame.{Frame}
use Rattle.frames.specs.declared.Frame.TheVariants as Frame
use Rattle.line.specs.declared.Slot.{Slot}
use Rattle.setup.specs.Setup.{channels}
use Rattle.sender.specs.declared.Sender.{Sender}
use Rattle.sender.specs.Sender.{queue_at}
use Rattle.receiver.specs.declared.Owed.{Owed}
use Rattle.receiver.specs.declared.Owed.TheVariants as Owed
use Rattle.receiver.specs.declared.Receiver.{Receiver}
use Rattle.receiver.specs.Receiver.{is_marked}
use Rattle.ends.specs.declared.End.{End}

-- ---- on a line

abbrev pub weight : Frame → ℕ
weight (Frame.Packet number p) = 2
weight (Frame.Message m) = 1

abbrev pub weight_of : List Slot → ℕ
weight_of l = total (λ x. weight x.frame) l

-- ---- at an end

-- the sum of f over the numbers below n
unfoldable pub sum : ℕ → (ℕ → ℕ) → ℕ
sum zero f = 0
sum (suc n) f = sum n f + f n

-- packets that wait to be sent, on all channels
unfoldable pub queued : Sender → ℕ
queued s = sum channels (λ channel. (queue_at s channel).len)

-- packets left in a running replay
abbrev pub left : Option ℕ → ℕ → ℕ
left (Some j) len = len - j
left None len = 0

abbrev pub owing : Owed → ℕ
owing Owed.Nothing = 0
owing Owed.Ack = 1
owing Owed.Nak = 1

unfoldable pub marks : Receiver → ℕ
marks r = length (filter is_marked r.rooms)

unfoldable pub burden : Sender → Receiver → ℕ
burden s r = 2 * queued s + 2 * left s.replay.at s.buffer.len + owing r.reply.owed + marks r
