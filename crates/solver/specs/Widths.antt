-- How large the numbers are of which the inner functions make others, so that 64 bits are enough.
use Rattle.std.specs.Prelude.{pos, ◌+ℤ◌, ◌-ℤ◌, ◌*ℤ◌}
use Rattle.ints.specs.Within.{Within}
use Rattle.runs.specs.declared.Run.{Run}
use Rattle.runs.specs.declared.Equation.{Equation}

-- a run that can be turned: its ends lie within 2³², and so does its step
pub record Turnable (r : Run) : Type 0 where
  pub first : Within 4294967296 r.first
  pub last : Within 4294967296 (r.first +ℤ r.step *ℤ (pos r.many -ℤ pos 1))
  pub step : Within 4294967296 r.step

-- a run whose first number lies within ±1,000,000,000, and its step within twice that
pub record Crossable (r : Run) : Type 0 where
  pub first : Within 1000000000 r.first
  pub step : Within 2000000000 r.step

-- an equation in normal form: a coefficient is one of a row's, or the sum of its two
pub record Combinable (e : Equation) : Type 0 where
  pub left : Within 2000000 e.a
  pub right : Within 2000000 e.b
  pub constant : Within 2000000000000000 e.c
