-- What the thin functions of a host's end say of a step: its answer and detail, and for Send the frame.
-- Assumes nothing.
use Rattle.std.specs.Prelude.{ℕ, Option, Some, None, Result, Ok, Err}
use Rattle.answers.specs.declared.Refusal.{Refusal}
use Rattle.answers.specs.Answers.{number_of}
use Rattle.frames.specs.declared.Frame.{Frame}
use Rattle.ends.specs.Ends.{Stepped}
use Rattle.ends.specs.Sends.{Sent}
use Rattle.host.specs.declared.Given.{Given}

-- answer and detail
pub record Said : Type 0 where
  pub answer : ℕ
  pub detail : ℕ

abbrev pub said : ℕ → ℕ → Said
said answer detail = record { answer = answer; detail = detail }

abbrev pub said_of : Stepped → Said
said_of s = said s.answer s.detail

-- what is said of the detail that is given; a refusal has detail 0
abbrev pub said_by : Result ℕ Refusal → Said
said_by (Ok detail) = said 0 detail
said_by (Err refusal) = said (number_of refusal) 0

-- what Send gives: no frame where no frame applies
pub record Outgoing : Type 0 where
  pub said : Said
  pub frame : Option Frame

abbrev pub outgoing : Said → Option Frame → Outgoing
outgoing s f = record { said = s; frame = f }

abbrev pub outgoing_of : Sent → Outgoing
outgoing_of s = outgoing (said s.answer s.detail) s.frame

abbrev pub outgoing_by : Result Given Refusal → Outgoing
outgoing_by (Ok x) = outgoing (said 0 x.detail) (Some x.frame)
outgoing_by (Err refusal) = outgoing (said (number_of refusal) 0) None
