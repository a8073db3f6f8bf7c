-- The rows of the variables of a job that the check accepts with its amendments, as they are in force.
use mathlib.Core.Path.{◌≡◌, sym, ◌∙◌, ap, subst}
use mathlib.Core.List.{List}
use Prim.Native.Nat.{ℕ, ◌<◌}
use native.Mathlib.Omega.{arith}
use lib.ListN.{length}
use lib.IntN.{ℤ}
use Rattle.jobs.specs.declared.Bounds.{Bounds}
use Rattle.jobs.specs.Call.{lending_nothing}
use Rattle.jobs.specs.Job.{job_of, variable_count}
use Rattle.jobs.specs.Amendments.{amendments_of, amended}
use Rattle.jobs.specs.ReasonTable.{Faultless}
use Rattle.jobs.specs.AmendmentPasses.{Overlaid}
use Rattle.jobs.proofs.Faults.{none_broken}
use Rattle.jobs.proofs.JobOf.{variables_of}
use Rattle.jobs.proofs.AmendedJob.{variable-amended, overlaid}
use Rattle.solver.specs.VariableArrays.{BoundsOf, WeightsOf}

module _ (s a : List ℕ) (f : Faultless (lending_nothing s a)) {n : ℕ} (n_is : n ≡ variable_count s) where
  n_rows : n ≡ length (job_of s).variables
  n_rows = n_is ∙ sym (variables_of s)

  -- the bounds are those that the sheets leave,
  pub bounds_in_force : (before after : List Bounds) → BoundsOf (job_of s) n before → Overlaid (amendments_of a) before after → BoundsOf (amended s a) n after
  bounds_in_force before after b o = record {
    at = λ i h.
        let l : i < length (job_of s).variables = omega (arith, h, n_rows) in
        (overlaid (lending_nothing s a) (none_broken (lending_nothing s a) f) before after (subst (λ n. BoundsOf (job_of s) n before) n_rows b) o).at i l
        ∙ sym (ap (λ v. record { low = v.low; high = v.high }) (variable-amended s a i l));
  }

  -- and the weights stay
  pub weights_in_force : (weights : List ℤ) → WeightsOf (job_of s) n weights → WeightsOf (amended s a) n weights
  weights_in_force weights w = record { at = λ i h. w.at i h ∙ sym (ap (λ v. v.weight) (variable-amended s a i (omega (arith, h, n_rows)))) }
