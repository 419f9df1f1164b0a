-- Send at one end: the first frame that applies, and the end after it. Document 01, step 2.
-- Assumes nothing.
use Rattle.std.specs.Prelude.{ℕ, Option, Some, None, Result, Ok, Err}
use Rattle.answers.specs.declared.Refusal.{Refusal}
use Rattle.answers.specs.Answers.{number_of}
use Rattle.frames.specs.declared.Frame.{Frame}
use Rattle.sender.specs.declared.Sender.{Sender}
use Rattle.sender.specs.Sources.{replay_frame, replayed, new_of, new_frame, sent_new}
use Rattle.receiver.specs.declared.Receiver.{Receiver}
use Rattle.receiver.specs.Receiver.{nak_of, ack_of, cleared, first_marked, update_frame, told}
use Rattle.ends.specs.declared.End.{End}
use Rattle.ends.specs.declared.Outgoing.{Outgoing}
use Rattle.ends.specs.Ends.{end}

-- the end after Send, with the frame for the line, answer and detail
pub record Sent : Type 0 where
  pub end : End
  pub frame : Option Frame
  pub answer : ℕ
  pub detail : ℕ

abbrev pub sent : End → Option Frame → ℕ → ℕ → Sent
sent e f answer detail = record { end = e; frame = f; answer = answer; detail = detail }

-- a refusal leaves the end as it was, and has no frame
abbrev pub sent_of : End → Result Outgoing Refusal → Sent
sent_of e (Ok x) = sent x.end (Some x.frame) 0 x.detail
sent_of e (Err refusal) = sent e None (number_of refusal) 0

-- a frame from the receiving half, and one from the sending half
abbrev pub from_receiver : End → Receiver → Frame → ℕ → Sent
from_receiver e r f detail = sent (end e.setup e.sender r) (Some f) 0 detail

abbrev pub from_sender : End → Sender → Frame → ℕ → Sent
from_sender e s f detail = sent (end e.setup s e.receiver) (Some f) 0 detail

-- each source answers found, or a later one does
abbrev pub on_frame : Option Frame → (Frame → Sent) → Sent → Sent
on_frame (Some f) found later = found f
on_frame None found later = later

abbrev pub on_found : Option ℕ → (ℕ → Sent) → Sent → Sent
on_found (Some i) found later = found i
on_found None found later = later

abbrev pub on_new : Option (ℕ × ℕ) → (ℕ → ℕ → Sent) → Sent → Sent
on_new (Some (channel, place)) found later = found channel place
on_new None found later = later

-- an owed Nak; an owed Ack; a marked credit update; the next replay packet if a replay runs;
-- a new packet if none runs and the replay buffer has room; 18: no frame applies
unfoldable pub send_of : End → Sent
send_of e =
    on_frame (nak_of e.receiver.reply) (λ f. from_receiver e (cleared e.receiver) f 1)
    (on_frame (ack_of e.receiver.reply) (λ f. from_receiver e (cleared e.receiver) f 2)
    (on_found (first_marked e.receiver) (λ i. from_receiver e (told e.receiver i) (update_frame e.receiver i) 3)
    (on_found e.sender.replay.at (λ i. from_sender e (replayed e.sender i) (replay_frame e.sender i) 4)
    (on_new (new_of e.sender) (λ channel place. from_sender e (sent_new e.sender channel place) (new_frame e.sender channel place) 5)
    (sent e None 18 0)))))
