-- The rows of a sheet, one more at a time.
use mathlib.Core.Path.{◌≡◌, sym, ◌∙◌, ap}
use mathlib.Core.Logic.{◌≢◌}
use mathlib.Core.List.{List, [], ◌∷◌, ◌++◌, flat_map}
use Prim.Native.Nat.{ℕ, ◌+◌, ◌<◌}
use lib.IntN.{ℤ}
use Rattle.lists.specs.Table.{up_to}
use Rattle.lists.proofs.Maps.{flat_map_same, flat_map_both}
use Rattle.lists.proofs.Table.{in-up_to}
use Rattle.runs.specs.declared.Run.{Run}
use Rattle.jobs.specs.SheetLayout.{sheet_variable, sheet_group, sheet_variables, sheet_groups}
use Rattle.families.specs.ModelFindings.{leads_by}
use Rattle.solver.proofs.LowestVariables.{leads_none, leads_yes, leads_no}
use Rattle.planner.proofs.ReportRows.{one_row, no_rows, next_row}

-- ---- the variables' rows
module _ (x : ℕ → ℤ) (r : ℕ → Run) (group : ℕ → ℕ) where
  abbrev row : ℕ → List ℕ
  row i = sheet_variable (x i) (r i) (group i)

  pub variables_none : sheet_variables x r group 0 ≡ []
  unfolding sheet_variables
  variables_none = no_rows row

  pub variables_next : (i : ℕ) → sheet_variables x r group i ++ sheet_variable (x i) (r i) (group i) ≡ sheet_variables x r group (i + 1)
  unfolding sheet_variables
  variables_next i = next_row row i

-- the same rows where the numbers of the groups are the same
pub variables_same : (x : ℕ → ℤ) (r : ℕ → Run) (group group' : ℕ → ℕ) (n : ℕ) → ((i : ℕ) → i < n → group i ≡ group' i) → sheet_variables x r group n ≡ sheet_variables x r group' n
unfolding sheet_variables
variables_same x r group group' n e = flat_map_same (row x r group) (row x r group') (up_to n) (λ i m. ap (sheet_variable (x i) (r i)) (e i ((in-up_to n i).0 m)))

-- ---- the groups' rows, one variable after the other
module _ (g : ℕ → ℕ) (r : ℕ → Run) (k : ℕ → ℕ) (slope : ℕ → ℤ) where
  abbrev row_of : ℕ → List ℕ
  row_of l = sheet_group (r l).many (k l) (slope l)

  pub groups_none : sheet_groups r k slope (leads_by g 0) ≡ []
  unfolding sheet_groups
  groups_none = ap (flat_map row_of) (leads_none g)

  pub groups_yes : (i : ℕ) → g i ≡ i → sheet_groups r k slope (leads_by g i) ++ sheet_group (r i).many (k i) (slope i) ≡ sheet_groups r k slope (leads_by g (i + 1))
  unfolding sheet_groups
  groups_yes i e = sym (ap (flat_map row_of) (leads_yes g i e) ∙ flat_map_both row_of (leads_by g i) (i ∷ []) ∙ ap (λ t. flat_map row_of (leads_by g i) ++ t) (one_row row_of i))

  pub groups_no : (i : ℕ) → g i ≢ i → sheet_groups r k slope (leads_by g i) ≡ sheet_groups r k slope (leads_by g (i + 1))
  unfolding sheet_groups
  groups_no i d = sym (ap (flat_map row_of) (leads_no g i d))
