-- Bounds that come apart from the job's bytes: the job is then the same but for its variables' bounds.
use Rattle.std.specs.Prelude.{List, ℕ, ◌<◌, length, get_or, pos}
use Rattle.ints.specs.Within.{Within}
use Rattle.lists.specs.Table.{table}
use Rattle.runs.specs.Run.{bound}
use Rattle.jobs.specs.Job.{Variable, Job, variable}
pub use Rattle.jobs.specs.declared.Bounds.{Bounds}

-- past the last of a list all is 0
abbrev pub no_bounds : Bounds
no_bounds = record { low = pos 0; high = pos 0 }

-- those in a variable's row
abbrev pub variable_bounds : Variable → Bounds
variable_bounds v = record { low = v.low; high = v.high }

-- the job with these bounds in place of its own
unfoldable pub with_bounds : Job → List Bounds → Job
unfolding table
with_bounds j bounds = record {
  variables = table (λ i. record { low = (get_or bounds i no_bounds).low; high = (get_or bounds i no_bounds).high; weight = (variable j i).weight }) (length j.variables);
  equations = j.equations;
}

-- "Low and high lie within ±1,000,000,000"
pub record Bounded (b : Bounds) : Type 0 where
  pub low : Within bound b.low
  pub high : Within bound b.high

pub record BoundedBy (bounds : List Bounds) (n : ℕ) : Type 0 where
  pub at : (i : ℕ) → i < n → Bounded (get_or bounds i no_bounds)
