-- The checks of the equations' rows, row by row: what is left of them at a row, and what that row's tests say of it.
use mathlib.Core.Path.{◌≡◌, sym, ◌∙◌, ap, subst}
use mathlib.Core.Logic.{◌↔◌}
use mathlib.Core.Bool.{Bool, true}
use mathlib.Core.Option.{Option, none, some}
use mathlib.Core.List.{List, [], ◌∷◌, flat_map}
use Prim.Native.Nat.{ℕ, ◌+◌, ◌-◌, ◌≤◌, ◌<◌}
use Rattle.reasons.specs.declared.Reason.{Reason}
use Rattle.reasons.specs.declared.Reason.TheVariants.{EquationVariables, EquationRange}
use Rattle.lists.specs.Table.{table_from, up_to}
use Rattle.lists.proofs.Table.{from_next, from_end, from_start}
use Rattle.jobs.specs.Amendments.{amended}
use Rattle.jobs.specs.Component.{component_count}
use Rattle.jobs.specs.Job.{Equation, job_of, variable_count, equation_count, equation}
use Rattle.jobs.specs.ReasonTable.{Misnamed, Coefficients, Broken, equation_checks}
use Rattle.jobs.specs.Call.{lending_nothing}
use Rattle.jobs.specs.Decide.{first_where}
use Rattle.jobs.specs.Faults.{breaks?}
use Rattle.jobs.proofs.FirstOf.{first_none, first_here, first_later}

module _ (s : List ℕ) where
  abbrev g : ℕ
  g = component_count (amended s [])

  abbrev first : List Reason → Option Reason
  first = first_where (breaks? (lending_nothing s []))

  -- the first fault of m equations' rows, from row k on
  abbrev checks_from : ℕ → ℕ → List Reason
  checks_from k m = flat_map equation_checks (table_from (λ i. i) k (m - k))

  abbrev pub of_equations : ℕ → ℕ → Option Reason
  of_equations k m = first (checks_from k m)

  pub equations_start : (m : ℕ) → first (flat_map equation_checks (up_to m)) ≡ of_equations 0 m
  equations_start m = ap (λ l. first (flat_map equation_checks l)) (from_start (λ k. k) m)

  pub equations_end : (k m : ℕ) → m ≤ k → of_equations k m ≡ none
  unfolding flat_map
  equations_end k m h = ap (λ l. first (flat_map equation_checks l)) (from_end (λ k. k) k m h) ∙ first_none (breaks? (lending_nothing s []))

  module _ (k m : ℕ) (h : k < m) where
    both_checks : of_equations k m ≡ first (EquationVariables k ∷ EquationRange k ∷ checks_from (k + 1) m)
    unfolding flat_map
    both_checks = ap (λ l. first (flat_map equation_checks l)) (from_next (λ k. k) k m h)

    pub names_here : Broken g (lending_nothing s []) (EquationVariables k) → of_equations k m ≡ some (EquationVariables k)
    names_here b = both_checks ∙ first_here (breaks? (lending_nothing s [])) (EquationVariables k) _ b

    second_check : ¬ Broken g (lending_nothing s []) (EquationVariables k) → of_equations k m ≡ first (EquationRange k ∷ checks_from (k + 1) m)
    second_check b = both_checks ∙ first_later (breaks? (lending_nothing s [])) (EquationVariables k) _ b

    pub range_here : ¬ Broken g (lending_nothing s []) (EquationVariables k) → Broken g (lending_nothing s []) (EquationRange k) → of_equations k m ≡ some (EquationRange k)
    range_here b e = second_check b ∙ first_here (breaks? (lending_nothing s [])) (EquationRange k) _ e

    pub equation_past : ¬ Broken g (lending_nothing s []) (EquationVariables k) → ¬ Broken g (lending_nothing s []) (EquationRange k) → of_equations k m ≡ of_equations (k + 1) m
    equation_past b e = second_check b ∙ first_later (breaks? (lending_nothing s [])) (EquationRange k) _ e

  -- ---- row by row, as the code reads them
  -- past the rows before k, what is left of the checks gives the first fault
  abbrev pub Passed : ℕ → Type 0
  Passed k = first (flat_map equation_checks (up_to (equation_count s))) ≡ of_equations k (equation_count s)

  pub all_left : Passed 0
  all_left = equations_start (equation_count s)

  pub none_left : (k : ℕ) → equation_count s ≤ k → Passed k → none ≡ first (flat_map equation_checks (up_to (equation_count s)))
  none_left k h p = sym (p ∙ equations_end k (equation_count s) h)

  module _ {n : ℕ} {e : Equation} (k : ℕ) (h : k < equation_count s) (n_is : n ≡ variable_count s) (e_is : e ≡ equation (job_of s) k) (p : Passed k) where
    misnamed : ¬ Misnamed n e → ¬ Misnamed (variable_count s) (equation (job_of s) k)
    misnamed f m = f (rw (n_is, e_is) m)

    pub row_passed : ¬ Misnamed n e → Coefficients e → Passed (k + 1)
    row_passed f c = p ∙ equation_past k (equation_count s) h (λ b. misnamed f b.1) (λ b. b.1 (subst Coefficients e_is c))

    pub row_misnamed : {r : Bool} → (r ≡ true) ↔ Misnamed n e → r ≡ true → some (EquationVariables k) ≡ first (flat_map equation_checks (up_to (equation_count s)))
    row_misnamed test t = sym (p ∙ names_here k (equation_count s) h (h, rw (← n_is, ← e_is) (test.0 t)))

    pub row_out : ¬ Misnamed n e → ¬ Coefficients e → some (EquationRange k) ≡ first (flat_map equation_checks (up_to (equation_count s)))
    row_out f c = sym (p ∙ range_here k (equation_count s) h (λ b. misnamed f b.1) (h, λ d. c (subst Coefficients (sym e_is) d)))
