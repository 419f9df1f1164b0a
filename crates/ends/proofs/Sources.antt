-- Send's sources in turn, over plain values: a section for each source that had nothing.
-- Assumes nothing.
use Rattle.std.specs.Prelude.{Option, ℕ, Some, None}
use Prim.Native.Nat.{ℕ}
use mathlib.Core.Path.{◌≡◌}
use Rattle.frames.specs.declared.Frame.{Frame}
use Rattle.sender.specs.Sources.{replay_frame, replayed, new_of, new_frame, sent_new}
use Rattle.receiver.specs.Receiver.{nak_of, ack_of, cleared, first_marked, update_frame, told}
use Rattle.ends.specs.declared.End.{End}
use Rattle.ends.specs.Sends.{sent, from_receiver, from_sender, send_of}

module _ (e : End) (x : Option Frame) (nak : x ≡ nak_of e.receiver.reply) where
  pub by_nak : (f : Frame) → x ≡ Some f → from_receiver e (cleared e.receiver) f 1 ≡ send_of e
  unfolding send_of
  by_nak f is = simp (send_of, ← nak, is)

  module _ (no_nak : x ≡ None) (y : Option Frame) (ack : y ≡ ack_of e.receiver.reply) where
    pub by_ack : (f : Frame) → y ≡ Some f → from_receiver e (cleared e.receiver) f 2 ≡ send_of e
    unfolding send_of
    by_ack f is = simp (send_of, ← nak, no_nak, ← ack, is)

    module _ (no-ack : y ≡ None) (z : Option ℕ) (marked : z ≡ first_marked e.receiver) where
      pub by_update : (i : ℕ) → z ≡ Some i → from_receiver e (told e.receiver i) (update_frame e.receiver i) 3 ≡ send_of e
      unfolding send_of
      by_update i is = simp (send_of, ← nak, no_nak, ← ack, no-ack, ← marked, is)

      module _ (no-mark : z ≡ None) where
        pub by_replay : (i : ℕ) → e.sender.replay.at ≡ Some i
            → from_sender e (replayed e.sender i) (replay_frame e.sender i) 4 ≡ send_of e
        unfolding send_of
        by_replay i is = simp (send_of, ← nak, no_nak, ← ack, no-ack, ← marked, no-mark, is)

        module _ (no_replay : e.sender.replay.at ≡ None) (w : Option (ℕ × ℕ)) (new : w ≡ new_of e.sender) where
          pub by_new_lem : (channel place : ℕ) → w ≡ Some (channel, place)
              → from_sender e (sent_new e.sender channel place) (new_frame e.sender channel place) 5 ≡ send_of e
          unfolding send_of
          by_new_lem channel place is = simp (send_of, ← nak, no_nak, ← ack, no-ack, ← marked, no-mark, no_replay, ← new, is)

          pub by_none : w ≡ None → sent e None 18 0 ≡ send_of e
          unfolding send_of
          by_none is = simp (send_of, ← nak, no_nak, ← ack, no-ack, ← marked, no-mark, no_replay, ← new, is)
