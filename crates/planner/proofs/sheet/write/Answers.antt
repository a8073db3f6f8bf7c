-- `write` meets its contract: the header, the variables' rows and, in the part lent for them, the groups' rows.
use mathlib.Core.Path.{◌≡◌, refl, ◌∙◌, ap}
use mathlib.Core.List.{List}
use Prim.Native.Nat.{ℕ, ◌+◌, ◌*◌, ◌-◌, ◌≤◌}
use borrow.Rule.Slice.PartMut.{mid_of, put_mid}
use borrow.Author.Rules.{rules}
use native.Mathlib.Omega.{arith}
use lib.ListN.{length, get_or}
use lib.IntN.{ℤ}
use Rattle.lists.specs.Table.{Tabulates}
use Rattle.runs.specs.declared.Run.{Run}
use Rattle.jobs.specs.Solution.{number}
use Rattle.jobs.specs.SheetLayout.{sheet_header, sheet_variables, sheet_groups, sheet_of}
use Rattle.jobs.proofs.SheetFields.{length_header, length_variables, length_groups}
use Rattle.families.specs.ModelFindings.{leads_by, component_by}
use Rattle.solver.specs.StateArrays.{label_in, run_in}
use Rattle.little_endian.specs.Over.{over}
use Rattle.planner.specs.Choice.{chosen_in, findings_in}
use Rattle.little_endian.proofs.Over.{over_same, over_lent, Written, behind_it, length-over}
use Rattle.planner.proofs.SheetRows.{variables_same}
use Rattle.planner.proofs.sheet.write.Goals as goal

module _ (labels : List ℕ) (runs : List Run) (slopes numbers : List ℤ) (n g : ℕ) (objective : ℤ) (q : g ≡ length (leads_by (label_in labels) n)) where
  -- the variables' rows, with the numbers of the groups as they are found, and as the definition has them
  abbrev rows : (ℕ → ℕ) → List ℕ
  rows group = sheet_variables (number numbers) (run_in runs) group n

  abbrev rows_of_groups : List ℕ
  rows_of_groups = sheet_groups (run_in runs) (chosen_in runs slopes) (number slopes) (leads_by (label_in labels) n)

  numbered : (components : List ℕ) → Tabulates 0 (component_by (label_in labels) n) n components → rows (λ i. get_or components i 0) ≡ rows (component_by (label_in labels) n)
  numbered components h = variables_same (number numbers) (run_in runs) (λ i. get_or components i 0) (component_by (label_in labels) n) n h.at

  -- the area stays as long as it is
  first_long : (a l₁ : List ℕ) → 24 ≤ length a → l₁ ≡ over 0 (sheet_header n g objective) a → length l₁ ≡ length a
  first_long a l₁ h e = ap length e ∙ length-over 0 (sheet_header n g objective) a (omega (arith, length_header n g objective))

  second_long : (group : ℕ → ℕ) (l₁ l₂ : List ℕ) → 24 + 16 * n ≤ length l₁ → l₂ ≡ over 24 (rows group) l₁ → length l₂ ≡ length l₁
  second_long group l₁ l₂ h e = ap length e ∙ length-over 24 (rows group) l₁ (omega (arith, length_variables (number numbers) (run_in runs) group n))

  -- l₁, l₂ and l₃ are the area after the header, after the variables' rows, and the part with the groups' rows
  whole : (components a l₁ l₂ l₃ : List ℕ) → 24 + 16 * n + 16 * g ≤ length a → Tabulates 0 (component_by (label_in labels) n) n components → l₁ ≡ over 0 (sheet_header n g objective) a →
      l₂ ≡ over 24 (rows (λ i. get_or components i 0)) l₁ → length l₂ ≡ length a → l₃ ≡ over 0 rows_of_groups (mid_of (24 + 16 * n) (length l₂ - (24 + 16 * n)) l₂) →
      put_mid (24 + 16 * n) (length l₂ - (24 + 16 * n)) l₂ l₃ ≡ over 0 (sheet_of (findings_in labels runs slopes numbers n objective)) a
  unfolding sheet_of
  whole components a l₁ l₂ l₃ room h e₁ e₂ long e₃ =
      let w₁ : Written 0 24 a (sheet_header n (length (leads_by (label_in labels) n)) objective) l₁ =
      record { is = over_same 0 a l₁ (ap (λ k. sheet_header n k objective) q) e₁; wide = length_header n (length (leads_by (label_in labels) n)) objective } in
      let all = rows (component_by (label_in labels) n) in
      let w₂ = behind_it w₁ (omega arith) all (over_same 24 l₁ l₂ (numbered components h) e₂) refl (length_variables (number numbers) (run_in runs) (component_by (label_in labels) n) n) in
      (behind_it w₂ (omega arith) rows_of_groups (over_lent (24 + 16 * n) rows_of_groups l₂ l₃ (omega (arith, long)) e₃) (omega arith)
      (length_groups (run_in runs) (chosen_in runs slopes) (number slopes) (leads_by (label_in labels) n))).is

pub returns : goal.returns
returns c = let x = c.args.chosen in
    let f = x.families in
    let a = c.args.area.now in
    let headed : c.header.new.area ≡ over 0 (sheet_header f.variables f.components x.worth) a = over_same 0 a _ (ap (sheet_header f.variables f.components) (search rules)) c.header.ensures in
    let after_header : length c.header.new.area ≡ length a = first_long f.state.now.labels f.state.now.runs x.slopes.now x.numbers.now f.variables f.components x.worth f.counted a _ (omega (arith, c.requires)) headed in
    let after_variables = second_long f.state.now.labels f.state.now.runs x.slopes.now x.numbers.now f.variables f.components x.worth f.counted _ _ _ (omega (arith, after_header, c.requires)) c.variables.ensures ∙ after_header in
    whole f.state.now.labels f.state.now.runs x.slopes.now x.numbers.now f.variables f.components x.worth f.counted c.numbers-components.result a _ _ _ c.requires
    c.numbers-components.ensures
    headed
    c.variables.ensures
    after_variables
    c.group_rows.ensures
