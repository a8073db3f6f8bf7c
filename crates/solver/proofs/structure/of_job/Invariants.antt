-- `of_job` meets its contract: equation by equation, what is found is what the definitions say.
use mathlib.Core.Path.{◌≡◌}
use Rattle.jobs.specs.Job.{job_of}
use Rattle.solver.proofs.StructurePass.{Through}
use Rattle.solver.proofs.structure.of_job.Given as goal

abbrev pub invariant-loop-k : goal.invariant-loop-k
invariant-loop-k l = (l.components.variables ≡ l.job.shape.variables) × Through (job_of l.job.bytes.now) l.job.shape.variables l.k l.components.labels l.found.degrees l.found.homes l.found.kinds
