-- The rows of a lawful job, as the loops over its equations read them.
use mathlib.Core.Path.{◌≡◌}
use mathlib.Core.List.{List}
use Prim.Native.Nat.{ℕ, ◌≤◌, ◌<◌}
use native.Mathlib.Omega.{arith}
use Rattle.jobs.specs.declared.Equation.{Equation}
use Rattle.jobs.specs.Job.{job_of, variable_count, equation_count, equation}
use Rattle.jobs.specs.NormalForm.{normal_row}
use Rattle.jobs.specs.ReasonTable.{Coefficients}
use Rattle.jobs.specs.Lawful.{Lawful, LawfulEquation}
use Rattle.jobs.proofs.JobOf.{variables_of, equations_of}
use Rattle.jobs.proofs.NormalForm.{normal-left_below, normal-right_below}

-- what a loop knows: the job is lawful, and n and m are its numbers of variables and equations
abbrev pub Sizes : List ℕ → ℕ → ℕ → Type 0
Sizes s n m = Lawful s × ((n ≡ variable_count s) × (m ≡ equation_count s))

module _ {s : List ℕ} {n m : ℕ} (z : Sizes s n m) where
  pub n_most : n ≤ 256
  n_most = omega (arith, z.1.0, z.0.rows.variables)

  pub m_most : m ≤ 1024
  m_most = omega (arith, z.1.1, z.0.rows.equations)

  -- row k, as it is written
  module _ (k : ℕ) (h : k < m) where
    lawful : LawfulEquation n (equation (job_of s) k)
    lawful = rw (z.1.0, ← variables_of s) (z.0.job.each_equation k (omega (arith, z.1.1, equations_of s)))

    pub left_below : (equation (job_of s) k).left < n
    left_below = lawful.left

    pub right_below : (equation (job_of s) k).right < n
    right_below = lawful.right

    pub coefficients : (e : Equation) → e ≡ equation (job_of s) k → Coefficients e
    coefficients e r = rw r lawful.coefficients

    -- and in normal form
    module _ (e : Equation) (r : e ≡ normal_row (job_of s) k) where
      pub normal_left : e.left < n
      normal_left = rw r (normal-left_below (equation (job_of s) k) n left_below right_below)

      pub normal_right : e.right < n
      normal_right = rw r (normal-right_below (equation (job_of s) k) n left_below right_below)
