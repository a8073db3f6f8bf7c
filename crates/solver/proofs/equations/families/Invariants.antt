-- `families` meets its contract: equation by equation, the arrays follow the model.
use mathlib.Core.Path.{◌≡◌}
use Rattle.jobs.specs.Job.{job_of}
use Rattle.jobs.specs.Bounds.{with_bounds}
use Rattle.solver.proofs.CodeFollowsModel.{Follows}
use Rattle.solver.proofs.equations.families.Given as goal

abbrev pub invariant-loop-k : goal.invariant-loop-k
invariant-loop-k l = record { as_many : l.components.variables ≡ l.job.shape.variables; follows : Follows (with_bounds (job_of l.job.bytes.now) l.bounds) l.k l.components.labels l.state.runs }
