-- What a step says: answer and detail; and that a refusal changes no word.
-- Assumes nothing.
use Rattle.std.specs.Prelude.{ℕ, ◌≡◌, Bool, false, List, Result, Ok, Err}
use Rattle.answers.specs.declared.Refusal.{Refusal}
use Rattle.answers.specs.Answers.{number_of}
use Rattle.delivery.specs.Delivery.{Got}
use Rattle.ends.specs.Ends.{Stepped}
use Rattle.pairs.specs.Pairs.{Done}
use Rattle.memory.specs.declared.hosts.Said.{Said}

abbrev pub said : ℕ → ℕ → Said
said answer detail = record { answer = answer; detail = detail }

-- what an outcome says: a refusal has detail 0
abbrev pub said_of : Result ℕ Refusal → Said
said_of (Ok detail) = said 0 detail
said_of (Err refusal) = said (number_of refusal) 0

abbrev pub said_got : Got → Said
said_got g = said g.answer g.detail

abbrev pub said_stepped : Stepped → Said
said_stepped s = said s.answer s.detail

abbrev pub said_done : Done → Said
said_done d = said d.answer d.detail

-- unless a step is made, every word is as it was
abbrev pub Keeps : Bool → List ℕ → List ℕ → Type 0
Keeps made m w = made ≡ false → w ≡ m
