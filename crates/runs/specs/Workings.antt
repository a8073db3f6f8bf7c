-- Document 01, "Workings": what meeting and carrying answer for all arguments.
use Rattle.std.specs.Prelude.{Bool, ◌&&◌, ◌≢◌, pos}
use Rattle.reasons.specs.Answer.{WorkingAnswer, answer_if}
use Rattle.ints.specs.Within.{Within, is_within}
use Rattle.euclid.specs.Coefficient.{is_coefficient}
use Rattle.runs.specs.Run.{Run, is_one_form}
use Rattle.runs.specs.Search.{meet, carry}
pub use Rattle.runs.specs.declared.Equation.{Equation}

-- "a and b are 1 to 1,000,000 in size with either sign, c lies within ±2,000,000,000,000,000"
pub record CarryLimits (e : Equation) : Type 0 where
  pub left : Within 1000000 e.a
  pub left_not_zero : e.a ≢ pos 0
  pub right : Within 1000000 e.b
  pub right_not_zero : e.b ≢ pos 0
  pub constant : Within 2000000000000000 e.c

-- the same as a test (proofs/Refusals.antt: the two agree)
abbrev pub carry_limits : Equation → Bool
carry_limits e = is_coefficient e.a && (is_coefficient e.b && is_within 2000000000000000 e.c)

-- two runs in their one form meet
abbrev pub meeting : Run → Run → WorkingAnswer Run
meeting a b = answer_if (is_one_form a && is_one_form b) (meet a b)

-- a run of q in its one form is carried by an equation within its limits
abbrev pub carrying : Equation → Run → WorkingAnswer Run
carrying e q = answer_if (carry_limits e && is_one_form q) (carry e.a e.b e.c q)
