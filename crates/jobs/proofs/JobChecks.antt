-- The checks of a job, one after the other: the header's, the variables' rows', and the equations' rows'.
use mathlib.Core.Path.{◌≡◌, sym, ◌∙◌, subst}
use mathlib.Core.Option.{Option, none, some}
use mathlib.Core.List.{List, [], flat_map}
use Prim.Native.Nat.{ℕ, ◌<◌}
use Rattle.std.specs.Prelude.{Result, Ok, Err}
use Rattle.reasons.specs.declared.Reason.{Reason}
use Rattle.reasons.specs.declared.Reason.TheVariants.{VariableRange}
use Rattle.reasons.specs.Answer.{fault_of}
use Rattle.lists.specs.Table.{table, up_to}
use Rattle.jobs.specs.Call.{lending_nothing}
use Rattle.jobs.specs.Job.{job_of, variable_count, equation_count, variable}
use Rattle.jobs.specs.Decide.{first_where}
use Rattle.jobs.specs.ReasonTable.{InRange, header_checks, equation_checks, row_checks}
use Rattle.jobs.specs.FirstRow.{FirstRow}
use Rattle.jobs.specs.Lawful.{Lawful}
use Rattle.jobs.specs.Faults.{breaks?, first_broken}
use Rattle.jobs.proofs.FirstOf.{first_past, first_stays}
use Rattle.jobs.proofs.FirstRow.{pass_fault}
use Rattle.jobs.proofs.Faults.{job_fault}
use Rattle.jobs.proofs.Lawful.{lawful}

module _ (s : List ℕ) where
  abbrev first : List Reason → Option Reason
  first = first_where (breaks? (lending_nothing s []))

  abbrev of_equations : List Reason
  of_equations = flat_map equation_checks (up_to (equation_count s))

  pub header_fault : {r : Reason} → some r ≡ first header_checks → some r ≡ first_broken (lending_nothing s [])
  header_fault e = sym (job_fault (lending_nothing s []) ∙ first_stays (breaks? (lending_nothing s [])) header_checks (row_checks s) (sym e))

  module _ (header : none ≡ first header_checks) where
    past_header : first_broken (lending_nothing s []) ≡ first (row_checks s)
    past_header = job_fault (lending_nothing s []) ∙ first_past (breaks? (lending_nothing s [])) header_checks (row_checks s) (sym header)

    module _ {n : ℕ} (n_is : n ≡ variable_count s) where
      -- what the pass over the variables' rows answers is the first fault of their checks
      of_variables : (x : Result (Unit {0}) Reason) → FirstRow VariableRange (λ i. ¬ InRange (variable (job_of s) i)) n x → first (table VariableRange (variable_count s)) ≡ fault_of x
      of_variables x f = pass_fault (lending_nothing s []) VariableRange (λ i. ¬ InRange (variable (job_of s) i)) (variable_count s) (λ i. (λ h. h, λ h. h)) x (subst (λ n. FirstRow VariableRange (λ i. ¬ InRange (variable (job_of s) i)) n x) n_is f)

      variable_first : {r : Reason} → FirstRow {A = Unit {0}} VariableRange (λ i. ¬ InRange (variable (job_of s) i)) n (Err r) → some r ≡ first_broken (lending_nothing s [])
      unfolding row_checks
      variable_first {r} f = sym (past_header ∙ first_stays (breaks? (lending_nothing s [])) (table VariableRange (variable_count s)) of_equations (of_variables (Err r) f))

      module _ (variables : (i : ℕ) → i < n → ¬ ¬ InRange (variable (job_of s) i)) where
        past_variables : first_broken (lending_nothing s []) ≡ first of_equations
        unfolding row_checks
        past_variables = past_header ∙ first_past (breaks? (lending_nothing s [])) (table VariableRange (variable_count s)) of_equations (of_variables (Ok tt) variables)

        equation_first : {o : Option Reason} → o ≡ first (flat_map equation_checks (up_to (equation_count s))) → o ≡ first_broken (lending_nothing s [])
        equation_first e = e ∙ sym past_variables

-- the same of the bytes t that were opened, which are the bytes s
module _ (s t : List ℕ) (opened : t ≡ s) (header : none ≡ first s header_checks) {n : ℕ} (n_is : n ≡ variable_count t) where
  header_of : none ≡ first t header_checks
  header_of = subst (λ s. none ≡ first s header_checks) (sym opened) header

  pub variable_fault : {r : Reason} → FirstRow {A = Unit {0}} VariableRange (λ i. ¬ InRange (variable (job_of t) i)) n (Err r) → some r ≡ first_broken (lending_nothing s [])
  variable_fault {r} f = subst (λ s. some r ≡ first_broken (lending_nothing s [])) opened (variable_first t header_of n_is f)

  module _ (variables : (i : ℕ) → i < n → ¬ ¬ InRange (variable (job_of t) i)) where
    pub equation_fault : {o : Option Reason} → o ≡ first t (flat_map equation_checks (up_to (equation_count t))) → o ≡ first_broken (lending_nothing s [])
    equation_fault {o} e = subst (λ s. o ≡ first_broken (lending_nothing s [])) opened (equation_first t header_of n_is variables e)

    pub checked_lawful : none ≡ first t (flat_map equation_checks (up_to (equation_count t))) → Lawful t
    checked_lawful e = lawful (lending_nothing t []) (sym (equation_first t header_of n_is variables e))
