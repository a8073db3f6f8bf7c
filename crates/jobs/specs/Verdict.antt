-- Document 01, "The sheet": "The outcome is one of: planned, with the worth; no fit, with the lowest count of the first group
-- that has no fit-out; refused, with a reason and a row." It is settled by all that the call is given.
use Rattle.std.proofs.Math.Option.{Option, none, some}
use Rattle.std.specs.Prelude.{ℕ, ℤ}
use Rattle.reasons.specs.declared.Reason.{Reason}
use Rattle.reasons.specs.Numbers.{number_of, row_of}
use Rattle.jobs.specs.Decide.{equal?, first_where}
use Rattle.jobs.specs.Call.{Call}
use Rattle.jobs.specs.Job.{Job}
use Rattle.jobs.specs.Amendments.{amended, job_in}
use Rattle.jobs.specs.Faults.{first_broken}
use Rattle.jobs.specs.Solution.{objective, best}
use Rattle.jobs.specs.Component.{leads}
use Rattle.jobs.specs.Family.{component_job, fits}

pub data Verdict : Type 0 where
  planned : ℤ → Verdict
  no_fit : ℕ → Verdict
  refused : ℕ → ℕ → Verdict

-- the lowest variable of the first group that has no solution
unfoldable pub first_without : Job → Option ℕ
unfolding first_where fits component_job leads
first_without j = first_where (λ l. equal? (fits (component_job j l)) 0) (leads j)

-- by the first reason that applies, the first group without a solution, and the worth of the best
abbrev pub outcome : Option Reason → Option ℕ → ℤ → Verdict
outcome (some r) l worth = refused (number_of r) (row_of r)
outcome none (some l) worth = no_fit l
outcome none none worth = planned worth

-- of a job that is not turned away
abbrev pub fitting : Job → Verdict
fitting j = outcome none (first_without j) (objective j (best j))

unfoldable pub verdict : Call → Verdict
unfolding first_broken first_without objective best amended
verdict c = let j = job_in c in outcome (first_broken c) (first_without j) (objective j (best j))
