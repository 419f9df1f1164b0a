-- What a host reads of an outcome.
-- Assumes nothing.
use Rattle.std.specs.Prelude.{ℕ, Result, Ok, Err}
use Rattle.answers.specs.Answers.{number_of}
use Rattle.script.specs.declared.Rejection.{Rejection}

-- 0, or the number of the refusal
abbrev pub number_in : {T : Type 0} → Result T Rejection → ℕ
number_in (Ok x) = 0
number_in (Err r) = number_of r.refusal
