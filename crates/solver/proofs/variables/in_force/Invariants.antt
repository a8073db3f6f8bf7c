-- `in_force` meets its contract: the rows as they are written.
use Prim.Native.Nat.{ℕ}
use lib.IntN.{ℤ, pos}
use Rattle.lists.proofs.ArrayPass.{Filled}
use Rattle.jobs.specs.Job.{Job, job_of, variable}
use Rattle.jobs.specs.declared.Bounds.{Bounds}
use Rattle.jobs.specs.Bounds.{no_bounds}
use Rattle.solver.proofs.variables.in_force.Given as goal

-- what row k says
abbrev pub bounds_in : Job → ℕ → Bounds
bounds_in j k = record { low = (variable j k).low; high = (variable j k).high }

abbrev pub weight_in : Job → ℕ → ℤ
weight_in j k = (variable j k).weight

abbrev pub invariant-loop-i : goal.invariant-loop-i
invariant-loop-i l = Filled 256 no_bounds (bounds_in (job_of l.job.bytes.now)) l.i l.bounds × Filled 256 (pos 0) (weight_in (job_of l.job.bytes.now)) l.i l.weights
