-- The numbers of the answers, and what is answered.
-- Assumes nothing.
use Rattle.std.specs.Prelude.{ℕ, Result, Ok, Err}
use Rattle.answers.specs.declared.Refusal.{Refusal}

abbrev pub number_of : Refusal → ℕ
number_of Refusal.ScriptTooShort = 1
number_of Refusal.ScriptTooLong = 2
number_of Refusal.Mark = 3
number_of Refusal.Trailer = 4
number_of Refusal.Setup = 5
number_of Refusal.Form = 6
number_of Refusal.Room = 7
number_of Refusal.Shape = 10
number_of Refusal.End = 11
number_of Refusal.Kind = 12
number_of Refusal.Class = 13
number_of Refusal.Length = 14
number_of Refusal.TooManyUnits = 15
number_of Refusal.QueueFull = 16
number_of Refusal.LineFull = 17
number_of Refusal.NoFrame = 18
number_of Refusal.LineEmpty = 19
number_of Refusal.Channel = 20
number_of Refusal.NoneWaits = 21
number_of Refusal.PostedWaits = 22
number_of Refusal.NothingOut = 23
number_of Refusal.Acknowledgement = 24
number_of Refusal.Update = 25
number_of Refusal.OverRoom = 26
number_of Refusal.Field = 27

-- what is answered: 0, or the refusal's number
abbrev pub answer_of : {T : Type 0} → Result T Refusal → ℕ
answer_of (Ok x) = 0
answer_of (Err refusal) = number_of refusal
