-- A call without amendments is answered as before there were any: by document 01's table without theirs, over the job as it is written.
use mathlib.Core.Path.{◌≡◌, ◌∙◌, ap}
use mathlib.Core.List.{List, [], ◌++◌}
use mathlib.Core.Option.{Option}
use Prim.Native.Nat.{ℕ}
use Rattle.reasons.specs.declared.Reason.{Reason}
use Rattle.jobs.specs.Call.{Areas, call_of}
use Rattle.jobs.specs.Job.{job_of}
use Rattle.jobs.specs.Amendments.{amended}
use Rattle.jobs.specs.Solution.{objective, best}
use Rattle.jobs.specs.Findings.{findings}
use Rattle.jobs.specs.Structure.{structure}
use Rattle.jobs.specs.SheetOffsets.{sheet_length}
use Rattle.jobs.specs.MapOffsets.{map_length}
use Rattle.jobs.specs.ReasonTable.{header_checks, row_checks, amendment_checks, area_checks, checks}
use Rattle.jobs.specs.Decide.{first_where}
use Rattle.jobs.specs.Faults.{breaks?, first_broken}
use Rattle.jobs.specs.Verdict.{Verdict, first_without, outcome, verdict}
use Rattle.jobs.specs.AreasAfter.{areas_by, areas_after}
use Rattle.jobs.proofs.FirstOf.{first_drop}
use Rattle.jobs.proofs.Faults.{not_amended}
use Rattle.jobs.proofs.AreasAfter.{by}
use Rattle.jobs.proofs.DemandsHold.{verdict_is}
use Rattle.jobs.proofs.AmendedJob.{amended_by_none}

module _ (s : List ℕ) (lent : Areas) where
  -- the first fault by the checks of the job and of the areas alone
  abbrev pub fault_before : Option Reason
  fault_before = first_where (breaks? (call_of s [] lent)) (header_checks ++ (row_checks s ++ area_checks))

  abbrev pub verdict_before : Verdict
  verdict_before = outcome fault_before (first_without (job_of s)) (objective (job_of s) (best (job_of s)))

  abbrev pub areas_before : Areas
  areas_before = areas_by (findings (job_of s)) (structure (job_of s)) verdict_before lent

  -- the lengths that its last checks ask for are those of the job as it is written
  pub lengths_before : (sheet_length (amended s []) ≡ sheet_length (job_of s)) × (map_length (amended s []) ≡ map_length (job_of s))
  lengths_before = (ap sheet_length (amended_by_none s), ap map_length (amended_by_none s))

  pub fault_before_lem : first_broken (call_of s [] lent) ≡ fault_before
  unfolding first_broken checks
  fault_before_lem = first_drop (breaks? (call_of s [] lent)) (header_checks ++ row_checks s) (amendment_checks []) area_checks (not_amended s lent)

  pub verdict_before_lem : verdict (call_of s [] lent) ≡ verdict_before
  verdict_before_lem =
      verdict_is (call_of s [] lent)
      ∙ ap (λ o. outcome o (first_without (amended s [])) (objective (amended s []) (best (amended s [])))) fault_before_lem
      ∙ ap (λ j. outcome fault_before (first_without j) (objective j (best j))) (amended_by_none s)

  pub areas_before_lem : areas_after (call_of s [] lent) ≡ areas_before
  areas_before_lem = by (call_of s [] lent) verdict_before_lem ∙ ap (λ j. areas_by (findings j) (structure j) verdict_before lent) (amended_by_none s)
