-- The definitions at worked values, computed.
use Rattle.std.specs.Prelude.{◌≡◌, refl, ℕ, Ok, Err}
use Rattle.reasons.specs.declared.Reason.TheVariants.{WrongArgument, EquationRange}
use Rattle.reasons.specs.Answer.{gives, refused, working_answer_of}

-- a value, a refusal without a row, and one with row 3
read : (working_answer_of {A = ℕ} (Ok 5) ≡ gives 5) × (working_answer_of {A = ℕ} (Err WrongArgument) ≡ refused 9 0) × (working_answer_of {A = ℕ} (Err (EquationRange 3)) ≡ refused 7 3)
read = (refl, refl, refl)
