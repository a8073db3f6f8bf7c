-- A job with other bounds: what of it stays.
use mathlib.Core.Path.{◌≡◌, refl, sym, ap, subst}
use mathlib.Core.List.{List}
use Prim.Native.Nat.{ℕ, ◌<◌}
use native.Mathlib.Omega.{arith}
use lib.ListN.{length, get_or}
use Rattle.lists.proofs.Table.{length-table, table_at, same_table}
use Rattle.jobs.specs.Job.{Variable, Job, variable, equation, no_variable}
use Rattle.jobs.specs.ReasonTable.{InRange}
use Rattle.jobs.specs.Lawful.{LawfulJob, LawfulEquation}
use Rattle.jobs.specs.Bounds.{Bounds, no_bounds, with_bounds, BoundedBy}

module _ (j : Job) (bounds : List Bounds) where
  abbrev v : ℕ → Variable
  v i = record { low = (get_or bounds i no_bounds).low; high = (get_or bounds i no_bounds).high; weight = (variable j i).weight }

  pub same_length : length (with_bounds j bounds).variables ≡ length j.variables
  unfolding with_bounds
  same_length = length-table v (length j.variables)

  pub same_equations : (with_bounds j bounds).equations ≡ j.equations
  unfolding with_bounds
  same_equations = refl

  pub variable_with : (i : ℕ) → i < length j.variables → variable (with_bounds j bounds) i ≡ v i
  unfolding with_bounds
  variable_with i h = table_at v (length j.variables) i no_variable h

  -- bounds that are the same at every variable make the same job
  pub with_same : (others : List Bounds) → ((i : ℕ) → i < length j.variables → get_or bounds i no_bounds ≡ get_or others i no_bounds) → with_bounds j bounds ≡ with_bounds j others
  unfolding with_bounds
  with_same others e = λ t. record { variables = same t; equations = j.equations }
    where
      same : (with_bounds j bounds).variables ≡ (with_bounds j others).variables
      same = same_table no_variable v (λ i. record { low = (get_or others i no_bounds).low; high = (get_or others i no_bounds).high; weight = (variable j i).weight }) refl (λ i h. ap (λ b. record { low = b.low; high = b.high; weight = (variable j i).weight }) (e i h))

  -- bounds in range keep a job lawful
  pub lawful_with : LawfulJob j → BoundedBy bounds (length j.variables) → LawfulJob (with_bounds j bounds)
  unfolding with_bounds
  lawful_with f b = record {
    variables = omega (arith, same_length, f.variables);
    equations = f.equations;
    each_variable = λ i h.
        let l : i < length j.variables = omega (arith, same_length) in
        subst InRange (sym (variable_with i l)) (record { low = (b.at i l).low; high = (b.at i l).high; weight = (f.each_variable i l).weight });
    each_equation = λ k h. subst (λ n. LawfulEquation n (equation j k)) (sym same_length) (f.each_equation k h);
  }
