-- Each change of the sending half keeps the lengths of its arrays: four queues, twelve credits, and 48 places in each list of packets.
-- Assumes nothing.
use Prim.Native.Nat.{ℕ}
use mathlib.Core.Path.{◌≡◌, refl, ◌∙◌}
use lib.Dec.{ltb, eqb}
use lib.ListN.{length, set, get_or, length-set, length-map, length-drop}
use Rattle.basics.proofs.Branches.{by_test}
use Rattle.basics.proofs.Places.{stored-keeps, get_or-same}
use Rattle.packets.specs.declared.Packet.{Packet}
use Rattle.store.specs.declared.Packets.{Packets}
use Rattle.store.specs.Store.{capacity, empty, pushed, removed}
use Rattle.store.proofs.Held.{length-pushed, length_removed}
use Rattle.setup.specs.declared.Setup.{Setup}
use Rattle.setup.specs.Setup.{channels, per_end, slots}
use Rattle.sender.specs.declared.Replay.{Replay}
use Rattle.sender.specs.declared.Sender.{Sender}
use Rattle.sender.specs.Sender.{Told}
use Rattle.sender.specs.Sender.{start_of, queue_at, with_replay, submitted, begun, timer_of}
use Rattle.sender.specs.Sources.{replayed, new_packet, sent_new}

-- ---- by field

module _ (s : Sender) where
  pub queues_submitted : (channel : ℕ) (p : Packet) → length (submitted s channel p).queues ≡ length s.queues
  unfolding submitted
  queues_submitted channel p = length-set s.queues channel (pushed (queue_at s channel) p)

  pub credits_submitted : (channel : ℕ) (p : Packet) → length (submitted s channel p).credits ≡ length s.credits
  unfolding submitted
  credits_submitted channel p = refl

  pub queues_timer : length (timer_of s).sender.queues ≡ length s.queues
  unfolding timer_of
  queues_timer = by_test (λ (t : Told). length t.sender.queues ≡ length s.queues) (eqb s.buffer.len 0) (λ t. refl) (λ t. refl)

  pub credits_timer : length (timer_of s).sender.credits ≡ length s.credits
  unfolding timer_of
  credits_timer = by_test (λ (t : Told). length t.sender.credits ≡ length s.credits) (eqb s.buffer.len 0) (λ t. refl) (λ t. refl)

  pub queues_replayed : (i : ℕ) → length (replayed s i).queues ≡ length s.queues
  unfolding replayed
  queues_replayed i = refl

  pub credits_replayed : (i : ℕ) → length (replayed s i).credits ≡ length s.credits
  unfolding replayed
  credits_replayed i = refl

  module _ (channel place : ℕ) where
    pub queues_sent : length (sent_new s channel place).queues ≡ length s.queues
    unfolding sent_new
    queues_sent =
        by_test (λ (r : Sender). length r.queues ≡ length s.queues) (ltb channel channels) (λ t. length-set s.queues channel _) (λ t. refl)

    pub credits_sent : length (sent_new s channel place).credits ≡ length s.credits
    unfolding sent_new
    credits_sent =
        by_test (λ (r : Sender). length r.credits ≡ length s.credits) (ltb channel channels) (λ t. length-set s.credits _ _) (λ t. refl)

-- ---- all of them together

pub record Arrays (s : Sender) : Type 0 where
  pub queues_are : length s.queues ≡ channels
  pub credits_are : length s.credits ≡ per_end
  pub buffer_is : length s.buffer.items ≡ capacity
  pub queue_is : (channel : ℕ) → length (queue_at s channel).items ≡ capacity

pub arrays_start : (link : Setup) → length link.units ≡ slots → Arrays (start_of link)
unfolding start_of
arrays_start link h =
    record {
      queues_are = refl;
      credits_are = rw (length-map, length-drop, h);
      buffer_is = refl;
      queue_is = λ channel. rw (get_or-same channels channel empty);
    }

module _ (s : Sender) (a : Arrays s) where
  -- a queue of 48 places is stored
  stored-queue : (channel : ℕ) (q : Packets) → length q.items ≡ capacity
      → (k : ℕ) → length (get_or (set s.queues channel q) k empty).items ≡ capacity
  stored-queue channel q h k = stored-keeps (λ (r : Packets). length r.items ≡ capacity) s.queues channel k q empty h (a.queue_is k)

  pub arrays_submitted : (channel : ℕ) (p : Packet) → Arrays (submitted s channel p)
  unfolding submitted
  arrays_submitted channel p =
      record {
        queues_are = queues_submitted s channel p ∙ a.queues_are;
        credits_are = a.credits_are;
        buffer_is = a.buffer_is;
        queue_is =
            stored-queue channel (pushed (queue_at s channel) p)
            (length-pushed (queue_at s channel) (a.queue_is channel) p ∙ a.queue_is channel);
      }

  -- the replay alone changes
  pub arrays_replay : (x : Replay) → Arrays (with_replay s x)
  arrays_replay x = record { queues_are = a.queues_are; credits_are = a.credits_are; buffer_is = a.buffer_is; queue_is = a.queue_is }

  pub arrays_timer : Arrays (timer_of s).sender
  unfolding timer_of
  arrays_timer = by_test (λ (t : Told). Arrays t.sender) (eqb s.buffer.len 0) (λ t. a) (λ t. arrays_replay (begun s.replay))

  pub arrays_replayed : (i : ℕ) → Arrays (replayed s i)
  unfolding replayed
  arrays_replayed i = arrays_replay _

  pub arrays_sent : (channel place : ℕ) → Arrays (sent_new s channel place)
  unfolding sent_new
  arrays_sent channel place =
      by_test Arrays (ltb channel channels)
      (λ t.
      record {
        queues_are = length-set s.queues channel _ ∙ a.queues_are;
        credits_are = length-set s.credits _ _ ∙ a.credits_are;
        buffer_is = length-pushed s.buffer a.buffer_is (new_packet s channel place) ∙ a.buffer_is;
        queue_is =
            stored-queue channel (removed (queue_at s channel) place)
            (length_removed (queue_at s channel) (a.queue_is channel) place ∙ a.queue_is channel);
      })
      (λ t. a)
