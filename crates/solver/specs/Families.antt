-- What is promised of the state when all equations are taken in.
use Rattle.std.specs.Prelude.{◌≡◌, ℕ, ◌<◌, length}
use Rattle.jobs.specs.Job.{Job}
use Rattle.jobs.specs.Component.{lowest}
use Rattle.jobs.specs.Family.{family_run}
use Rattle.solver.specs.StateArrays.{label_in, run_in}
use Rattle.solver.specs.declared.State.{State}

-- each variable's component, by its lowest variable, and its base, step and fits, as the definitions read them off the list of
-- all solutions of the component
pub record Families (j : Job) (s : State) : Type 0 where
  pub label : (i : ℕ) → i < length j.variables → label_in s.labels i ≡ lowest j i
  pub run : (i : ℕ) → i < length j.variables → run_in s.runs i ≡ family_run j i
