-- `Job::check_variables` meets its contract: past each row in range.
use Rattle.std.proofs.Common.{ℕ, ◌<◌}
use Rattle.jobs.specs.Job.{job_of, variable}
use Rattle.jobs.specs.ReasonTable.{InRange}
use Rattle.jobs.proofs.Job.check_variables.Given as goal

abbrev pub invariant-loop-i : goal.invariant-loop-i
invariant-loop-i l = (u : ℕ) → u < l.i → ¬ ¬ InRange (variable (job_of l.self.bytes.now) u)
