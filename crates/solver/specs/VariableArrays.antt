-- What the rows of a job's variables say, in arrays, and what its variables begin with.
use Rattle.std.specs.Prelude.{List, ℕ, get_or, ℤ, pos}
use Rattle.lists.specs.Table.{Tabulates}
use Rattle.runs.specs.declared.Run.{Run}
use Rattle.runs.specs.Run.{full, empty}
use Rattle.runs.specs.Search.{meet}
use Rattle.jobs.specs.Job.{Job, variable}
use Rattle.jobs.specs.declared.Bounds.{Bounds}
use Rattle.jobs.specs.Bounds.{no_bounds}
use Rattle.families.specs.Model.{interval}

abbrev pub BoundsOf : Job → ℕ → List Bounds → Type 0
BoundsOf j = Tabulates no_bounds (λ i. record { low = (variable j i).low; high = (variable j i).high })

abbrev pub WeightsOf : Job → ℕ → List ℤ → Type 0
WeightsOf j = Tabulates (pos 0) (λ i. (variable j i).weight)

-- the full range met with each variable's bounds
abbrev pub begun : List Bounds → ℕ → Run
begun bounds i = meet full (interval (get_or bounds i no_bounds).low (get_or bounds i no_bounds).high)

abbrev pub Begins : List Bounds → ℕ → List Run → Type 0
Begins bounds = Tabulates empty (begun bounds)
