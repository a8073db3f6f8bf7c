-- The rows of the job that bytes say.
use mathlib.Core.Path.{◌≡◌, sym, ◌∙◌, ap}
use mathlib.Core.List.{List}
use Prim.Native.Nat.{ℕ, ◌<◌}
use native.Mathlib.Omega.{arith}
use lib.ListN.{length}
use Rattle.lists.proofs.Table.{length-table, table_at}
use Rattle.jobs.specs.Job.{job_of, variable_count, equation_count, variable_at, equation_at, no_variable, no_equation, variable, equation, equation_row_at, equation_from}

module _ (s : List ℕ) where
  pub variables_of : length (job_of s).variables ≡ variable_count s
  unfolding job_of
  variables_of = length-table (variable_at s) (variable_count s)

  pub equations_of : length (job_of s).equations ≡ equation_count s
  unfolding job_of
  equations_of = length-table (equation_at s) (equation_count s)

  pub variable_of : (i : ℕ) → i < variable_count s → variable (job_of s) i ≡ variable_at s i
  unfolding job_of
  variable_of i h = table_at (variable_at s) (variable_count s) i no_variable h

  pub equation_of : (k : ℕ) → k < equation_count s → equation (job_of s) k ≡ equation_at s k
  unfolding job_of
  equation_of k h = table_at (equation_at s) (equation_count s) k no_equation h

  -- with numbers of rows that are those
  pub variable_read : {n : ℕ} → n ≡ variable_count s → (i : ℕ) → i < n → variable (job_of s) i ≡ variable_at s i
  variable_read n_is i h = variable_of i (omega (arith, h, n_is))

  pub equation_read : {n m : ℕ} → n ≡ variable_count s → m ≡ equation_count s → (k : ℕ) → k < m → equation (job_of s) k ≡ equation_from s (equation_row_at n k)
  equation_read n_is m_is k h = equation_of k (omega (arith, h, m_is)) ∙ ap (λ n. equation_from s (equation_row_at n k)) (sym n_is)
