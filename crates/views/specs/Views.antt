-- What may come of Submit, Send and Take at one end: one case for each outcome, with what is known there.
-- Assumes nothing.
use Rattle.std.specs.Prelude.{ℕ, ◌≤◌, ◌<◌, ◌≡◌, true, not, ◌⊎◌, length, take, Some, None, Option}
use Rattle.basics.specs.Lists.{all}
use Rattle.counters.specs.Counters.{before_of}
use Rattle.packets.specs.declared.Packet.{Packet}
use Rattle.packets.specs.declared.Category.{Category}
use Rattle.packets.specs.declared.Category.TheVariants.{Posted}
use Rattle.packets.specs.Packets.{number_of, category_of, packet_answer, data_units}
use Rattle.frames.specs.declared.Frame.TheVariants as Frame
use Rattle.frames.specs.declared.Message.TheVariants as Message
use Rattle.store.specs.Store.{held, at, is_of, of_category}
use Rattle.setup.specs.Setup.{channels, units_at}
use Rattle.sender.specs.Sender as S
use Rattle.sender.specs.Sources.{replay_frame, replayed, new_of, new_frame, sent_new}
use Rattle.receiver.specs.declared.Owed.TheVariants as Owed
use Rattle.receiver.specs.Receiver as R
use Rattle.delivery.specs.Delivery.{handed_out}
use Rattle.ends.specs.declared.End.{End}
use Rattle.ends.specs.Ends.{Stepped}
use Rattle.ends.specs.Sends.{Sent}
use Rattle.ends.specs.Ends.{end, stepped, channel_for}
use Rattle.ends.specs.Sends.{sent, from_receiver, from_sender}

-- a refusal that the pair may give: neither 0 nor one of 10 and 24 to 27
pub data Usual : ℕ → Type 0 where
  usual : {n : ℕ} → 11 ≤ n → n ≤ 23 → Usual n

-- ---- Submit

pub data Submits (e : End) (p : Packet) : Stepped → Type 0 where
  not_accepted : {n : ℕ} → Usual n → Submits e p (stepped e n 0)
  joins : packet_answer p ≡ 0
      → data_units p ≤ (units_at e.setup 1 (channel_for e p) (number_of (category_of p))).payload
      → length (of_category (category_of p) (held (S.queue_at e.sender (channel_for e p)))) < 8
      → Submits e p (stepped (end e.setup (S.submitted e.sender (channel_for e p) p) e.receiver) 0 0)

-- ---- Send

pub data Sends (e : End) : Sent → Type 0 where
  a_nak : e.receiver.reply.owed ≡ Owed.Nak
      → Sends e (from_receiver e (R.cleared e.receiver) (Frame.Message (Message.Nak (before_of e.receiver.reply.next_receive))) 1)
  an_ack : e.receiver.reply.owed ≡ Owed.Ack
      → Sends e (from_receiver e (R.cleared e.receiver) (Frame.Message (Message.Ack (before_of e.receiver.reply.next_receive))) 2)
  an_update : (i : ℕ) → e.receiver.reply.owed ≡ Owed.Nothing → R.first_marked e.receiver ≡ Some i
      → Sends e (from_receiver e (R.told e.receiver i) (R.update_frame e.receiver i) 3)
  a_replay : (i : ℕ) → e.receiver.reply.owed ≡ Owed.Nothing → R.first_marked e.receiver ≡ None → e.sender.replay.at ≡ Some i
      → Sends e (from_sender e (replayed e.sender i) (replay_frame e.sender i) 4)
  a_new : (channel place : ℕ) → e.receiver.reply.owed ≡ Owed.Nothing → R.first_marked e.receiver ≡ None → e.sender.replay.at ≡ None
      → new_of e.sender ≡ Some (channel, place)
      → Sends e (from_sender e (sent_new e.sender channel place) (new_frame e.sender channel place) 5)
  nothing : e.receiver.reply.owed ≡ Owed.Nothing → R.first_marked e.receiver ≡ None → e.sender.replay.at ≡ None
      → new_of e.sender ≡ None
      → Sends e (sent e None 18 0)

-- ---- Take

pub data Takes (e : End) (channel category : ℕ) : Stepped → Type 0 where
  not_handed : {n : ℕ} → Usual n → Takes e channel category (stepped e n 0)
  hands : (c : Category) (place : ℕ) → number_of c ≡ category → channel < e.setup.n → channel < channels
      → place < length (held (R.inbox_at e.receiver channel))
      → is_of c (at (R.inbox_at e.receiver channel) place) ≡ true
      → all (λ p. not (is_of c p)) (take place (held (R.inbox_at e.receiver channel))) ≡ true
      → ((is_of Posted (at (R.inbox_at e.receiver channel) place) ≡ true)
      ⊎ (all (λ p. not (is_of Posted p)) (take place (held (R.inbox_at e.receiver channel))) ≡ true))
      → Takes e channel category
      (stepped (end e.setup e.sender (handed_out e.receiver channel c place)) 0 (at (R.inbox_at e.receiver channel) place).ident)
