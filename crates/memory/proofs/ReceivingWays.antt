-- What the writes of an arrival and of Take in lent words come to, over plain values.
-- Assumes nothing.
use Prim.Native.Nat.{ℕ}
use mathlib.Core.Path.{◌≡◌}
use Rattle.counters.specs.declared.Counts.{Counts}
use Rattle.credits.specs.declared.Room.{Room}
use Rattle.credits.specs.Credits.{received, given_back}
use Rattle.packets.specs.declared.Category.{Category}
use Rattle.packets.specs.declared.Packet.{Packet}
use Rattle.packets.specs.Packets.{category_of, need_of, slot_of}
use Rattle.store.specs.Store.{at, pushed, removed}
use Rattle.receiver.specs.declared.Reply.{Reply}
use Rattle.receiver.specs.declared.Receiver.{Receiver}
use Rattle.receiver.specs.Receiver.{inbox_at, room_at, with_reply, with_room, after_accepted}
use Rattle.delivery.specs.Delivery.{stored, handed_out}
use Rattle.memory.specs.Receiving.{with_inbox}

-- ---- three writes: the packet, the room, the reply

pub stored-all : (a b d e : Receiver) (channel slot : ℕ) (p : Packet) (m x : Room) (n : Counts) (y : Reply)
    → b ≡ with_inbox a channel (pushed (inbox_at a channel) p) → d ≡ with_room b slot x → e ≡ with_reply d y
    → slot ≡ slot_of channel (category_of p) → m ≡ room_at a slot → n ≡ need_of p → x ≡ received m n → y ≡ after_accepted a.reply
    → e ≡ stored a channel p
unfolding stored
stored-all a b d e channel slot p m x n y eb ed ee es em en ex ey = rw (ee, ed, eb, ex, ey, em, en, es)

-- two writes: the rest of the packets, the room
pub handed_all : (a b d : Receiver) (channel slot place : ℕ) (c : Category) (p : Packet) (m x : Room) (n : Counts)
    → b ≡ with_inbox a channel (removed (inbox_at a channel) place) → d ≡ with_room b slot x
    → slot ≡ slot_of channel c → p ≡ at (inbox_at a channel) place → m ≡ room_at a slot → n ≡ need_of p → x ≡ given_back m n
    → d ≡ handed_out a channel c place
unfolding handed_out
handed_all a b d channel slot place c p m x n eb ed es ep em en ex = rw (ed, eb, ex, em, en, ep, es)
