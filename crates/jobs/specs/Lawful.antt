-- What is known of a job that no check turns away, and asked for by the code that goes through its rows.
use Rattle.std.specs.Prelude.{List, ℕ, ◌≤◌, ◌<◌, length}
use Rattle.jobs.specs.Job.{Equation, Job, job_of, RowsInside, variable, equation}
use Rattle.jobs.specs.ReasonTable.{InRange, Coefficients}

-- an equation names variables below n, and its coefficients are within the limits
pub record LawfulEquation (n : ℕ) (e : Equation) : Type 0 where
  pub left : e.left < n
  pub right : e.right < n
  pub coefficients : Coefficients e

pub record LawfulJob (j : Job) : Type 0 where
  pub variables : length j.variables ≤ 256
  pub equations : length j.equations ≤ 1024
  pub each_variable : (i : ℕ) → i < length j.variables → InRange (variable j i)
  pub each_equation : (k : ℕ) → k < length j.equations → LawfulEquation (length j.variables) (equation j k)

-- the bytes of such a job
pub record Lawful (s : List ℕ) : Type 0 where
  pub rows : RowsInside s
  pub job : LawfulJob (job_of s)
