-- Document 01, "Workings": what division answers for every pair of numbers.
use Rattle.std.specs.Prelude.{Bool, not, ◌&&◌, ◌≢◌, ℕ, ℤ, pos}
use Rattle.reasons.specs.Answer.{WorkingAnswer, answer_if}
use Rattle.ints.specs.Within.{Within, is_within}
use Rattle.ints.specs.Equal.{is_equal}
use Rattle.ints.specs.Floor.{floor_div}

abbrev pub limit : ℕ
limit = 4000000000000000000

-- "Both arguments lie within ±4,000,000,000,000,000,000, divisor not 0."
pub record DivisionLimits (n d : ℤ) : Type 0 where
  pub dividend : Within limit n
  pub divisor : Within limit d
  pub not_zero : d ≢ pos 0

-- the same as a test (proofs/Answers.antt: the two agree)
abbrev pub division_limits : ℤ → ℤ → Bool
division_limits n d = is_within limit n && (is_within limit d && not (is_equal d (pos 0)))

-- the quotient rounded down, or reason 9
abbrev pub division : ℤ → ℤ → WorkingAnswer ℤ
division n d = answer_if (division_limits n d) (floor_div n d)
