-- The same of a job's bytes with other bounds: what the loop over its equations knows at its start, at each row and at its end.
use mathlib.Core.Path.{◌≡◌, refl, sym, ◌∙◌, ap, subst}
use mathlib.Core.List.{List}
use Prim.Native.Nat.{ℕ, ◌<◌}
use native.Mathlib.Omega.{arith}
use lib.ListN.{length, get_or}
use Rattle.lists.specs.Table.{Tabulates}
use Rattle.runs.specs.declared.Run.{Run}
use Rattle.runs.specs.Run.{empty}
use Rattle.jobs.specs.declared.Equation.{Equation}
use Rattle.jobs.specs.declared.Bounds.{Bounds}
use Rattle.jobs.specs.Job.{Job, job_of, no_equation}
use Rattle.jobs.specs.NormalForm.{normal, normal_row}
use Rattle.jobs.specs.Lawful.{LawfulJob}
use Rattle.jobs.specs.Component.{lowest}
use Rattle.jobs.specs.Family.{family_run}
use Rattle.jobs.specs.Bounds.{with_bounds, BoundedBy}
use Rattle.jobs.proofs.JobOf.{variables_of, equations_of}
use Rattle.jobs.proofs.WithBounds.{same_length, same_equations, variable_with, lawful_with}
use Rattle.solver.specs.Families.{Families}
use Rattle.solver.specs.Runs.{gathered}
use Rattle.solver.specs.VariableArrays.{Begins}
use Rattle.solver.specs.Labels.{Apart}
use Rattle.solver.proofs.LawfulRows.{Sizes, n_most}
use Rattle.solver.proofs.CodeFollowsModel.{Follows, At, Follows-start as begins, Follows-end as ends}

module _ {s : List ℕ} {n m : ℕ} (z : Sizes s n m) (b : List Bounds) (o : BoundedBy b n) where
  abbrev job : Job
  job = with_bounds (job_of s) b

  vars : length (job_of s).variables ≡ n
  vars = variables_of s ∙ sym z.1.0

  n_is : length job.variables ≡ n
  n_is = same_length (job_of s) b ∙ vars

  m_is : length job.equations ≡ m
  m_is = ap length (same_equations (job_of s) b) ∙ equations_of s ∙ sym z.1.1

  lawful : LawfulJob job
  lawful = lawful_with (job_of s) b z.0.job (subst (BoundedBy b) (sym vars) o)

  -- before any equation
  pub Follows-start : (labels : List ℕ) (runs : List Run) → Apart labels → Begins b n runs → Follows job 0 labels runs
  Follows-start labels runs a e =
      begins job lawful labels runs (λ i h. a.at i (omega (arith, n_is, n_most z)))
      (λ i h. e.at i (omega (arith, h, n_is)) ∙ rw (variable_with (job_of s) b i (omega (arith, h, n_is, vars))) refl)

  -- after all of them
  pub Follows-end : (labels : List ℕ) (runs runs' : List Run) → Follows job m labels runs → Tabulates empty (gathered labels runs) n runs' →
      Families job (record { labels = labels; runs = runs' })
  Follows-end labels runs runs' f t = record { label = λ i h. (at i h).0; run = λ i h. t.at i (omega (arith, h, n_is)) ∙ (at i h).1 }
    where
      at : (i : ℕ) → i < length job.variables → (get_or labels i 0 ≡ lowest job i) × (gathered labels runs i ≡ family_run job i)
      at = ends job lawful labels runs (subst (λ m. Follows job m labels runs) (sym m_is) f)

  -- at one of them
  pub at_row : {k : ℕ} {labels : List ℕ} {runs : List Run} {e : Equation} → k < m → Follows job k labels runs → e ≡ normal_row (job_of s) k → At job n k labels runs e
  at_row {k} h f r = record {
    lawful = lawful;
    all = n_is;
    below = omega (arith, h, m_is);
    follows = f;
    row = r ∙ ap (λ es. normal (get_or es k no_equation)) (sym (same_equations (job_of s) b));
  }
