-- What an answer says of an outcome: 0 is no refusal, and no refusal has the number 0. A row of answers is read up to the first refusal.
-- Assumes nothing.
use Rattle.std.specs.Prelude.{◌≡◌, false, eqb, Result, Ok, Err, is_ok}
use mathlib.Core.Path.{refl, sym}
use native.Mathlib.Omega.{arith}
use Rattle.answers.specs.declared.Refusal.{Refusal}
use Rattle.answers.specs.Answers.{number_of, answer_of}

pub no_refusal_is_0 : (e : Refusal) → eqb (number_of e) 0 ≡ false
no_refusal_is_0 Refusal.ScriptTooShort = refl
no_refusal_is_0 Refusal.ScriptTooLong = refl
no_refusal_is_0 Refusal.Mark = refl
no_refusal_is_0 Refusal.Trailer = refl
no_refusal_is_0 Refusal.Setup = refl
no_refusal_is_0 Refusal.Form = refl
no_refusal_is_0 Refusal.Room = refl
no_refusal_is_0 Refusal.Shape = refl
no_refusal_is_0 Refusal.End = refl
no_refusal_is_0 Refusal.Kind = refl
no_refusal_is_0 Refusal.Class = refl
no_refusal_is_0 Refusal.Length = refl
no_refusal_is_0 Refusal.TooManyUnits = refl
no_refusal_is_0 Refusal.QueueFull = refl
no_refusal_is_0 Refusal.LineFull = refl
no_refusal_is_0 Refusal.NoFrame = refl
no_refusal_is_0 Refusal.LineEmpty = refl
no_refusal_is_0 Refusal.Channel = refl
no_refusal_is_0 Refusal.NoneWaits = refl
no_refusal_is_0 Refusal.PostedWaits = refl
no_refusal_is_0 Refusal.NothingOut = refl
no_refusal_is_0 Refusal.Acknowledgement = refl
no_refusal_is_0 Refusal.Update = refl
no_refusal_is_0 Refusal.OverRoom = refl
no_refusal_is_0 Refusal.Field = refl

pub never_0 : (e : Refusal) → number_of e ≡ 0 → ⊥
never_0 e z = let p = no_refusal_is_0 e in grind (arith, p, z)

-- accepted exactly where the answer is 0
pub accepts : {T : Type 0} (r : Result T Refusal) → is_ok r ≡ eqb (answer_of r) 0
accepts (Ok x) = refl
accepts (Err e) = sym (no_refusal_is_0 e)
