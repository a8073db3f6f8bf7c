-- The planner's verdict and areas, case by case, from the first fault of a call.
use mathlib.Core.Path.{◌≡◌, ◌∙◌, ap}
use mathlib.Core.Option.{Option, none, some}
use mathlib.Core.List.{◌∷◌, ◌++◌}
use Prim.Native.Nat.{ℕ, ◌<◌}
use lib.ListN.{length}
use Rattle.reasons.specs.declared.Reason.{Reason}
use Rattle.reasons.specs.declared.Reason.TheVariants.{ShortJob, WrongMark, TooMany, WrongHeader}
use Rattle.reasons.specs.Numbers.{number_of, row_of}
use Rattle.jobs.specs.Call.{Call}
use Rattle.jobs.specs.Job.{Job}
use Rattle.jobs.specs.Amendments.{job_in}
use Rattle.jobs.specs.Solution.{objective, best}
use Rattle.jobs.specs.Findings.{findings}
use Rattle.jobs.specs.Structure.{structure}
use Rattle.jobs.specs.ReasonTable.{row_checks, amendment_checks, area_checks, checks}
use Rattle.jobs.specs.Faults.{breaks?, first_broken}
use Rattle.jobs.specs.Verdict.{refused, first_without, outcome, fitting, verdict}
use Rattle.jobs.specs.AreasAfter.{areas_by, areas_after}
use Rattle.jobs.proofs.FirstOf.{first_here}
use Rattle.jobs.proofs.AreasAfter.{planned-ne-refused, no_refusal, Mapped, if_refused, by}
use Rattle.jobs.proofs.DemandsHold.{verdict_is}

-- a job that is not turned away has a verdict for which the map is written
pub fitting-Mapped : (j : Job) → Mapped (fitting j)
fitting-Mapped j = go (first_without j)
  where
    go : (o : Option ℕ) → Mapped (outcome none o (objective j (best j)))
    go none p q = planned-ne-refused
    go (some l) p q = no_refusal

module _ (c : Call) where
  abbrev j : Job
  j = job_in c

  by_fault : {o : Option Reason} → first_broken c ≡ o → verdict c ≡ outcome o (first_without j) (objective j (best j))
  by_fault e = verdict_is c ∙ ap (λ o. outcome o (first_without j) (objective j (best j))) e

  -- a rule is broken
  pub as_broken : (r : Reason) → first_broken c ≡ some r → (verdict c ≡ refused (number_of r) (row_of r)) × (areas_after c ≡ c.lent)
  as_broken r e = let v : verdict c ≡ refused (number_of r) (row_of r) = by_fault e in (v, if_refused c v)

  -- so it is where there is no whole header
  pub no_header : length c.job < 24 → (verdict c ≡ refused 1 0) × (areas_after c ≡ c.lent)
  unfolding first_broken checks
  no_header h = as_broken ShortJob (first_here (breaks? c) ShortJob (WrongMark ∷ TooMany ∷ WrongHeader ∷ ((row_checks c.job ++ amendment_checks c.amendments) ++ area_checks)) h)

  -- no rule is broken
  pub as_fitting : first_broken c ≡ none → (verdict c ≡ fitting (job_in c)) × (areas_after c ≡ areas_by (findings (job_in c)) (structure (job_in c)) (fitting (job_in c)) c.lent)
  as_fitting e = let v : verdict c ≡ fitting j = by_fault e in (v, by c v)
