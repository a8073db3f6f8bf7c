-- `variables` meets its contract: row for row.
use mathlib.Core.Path.{◌≡◌, refl, sym, ◌∙◌, ap}
use mathlib.Core.List.{List}
use Prim.Native.Nat.{ℕ, ◌+◌, ◌*◌, ◌≤◌}
use native.Mathlib.Omega.{arith}
use lib.ListN.{length, get_or}
use lib.IntN.{ℤ}
use Rattle.runs.specs.declared.Run.{Run}
use Rattle.jobs.specs.Solution.{number}
use Rattle.jobs.specs.SheetLayout.{sheet_variable}
use Rattle.jobs.proofs.SheetFields.{length_variables}
use Rattle.solver.specs.StateArrays.{run_in}
use Rattle.solver.proofs.In64Bits.{held-Within}
use Rattle.little_endian.specs.Over.{over}
use Rattle.little_endian.proofs.Over.{over_none, over_same}
use Rattle.planner.proofs.ReportRows.{laid}
use Rattle.planner.proofs.SheetRows.{variables_none, variables_next}
use Rattle.planner.proofs.sheet.variables.Goals as goal
use Rattle.planner.proofs.sheet.variables.Invariants.{rows}

module _ (runs : List Run) (numbers : List ℤ) (components : List ℕ) (a x : List ℕ) where
  -- one row more
  more : (n i : ℕ) (y : List ℕ) → i ≤ n → 24 + 16 * n ≤ length a → x ≡ over 24 (rows runs numbers components i) a →
      y ≡ over (24 + 16 * i) (sheet_variable (number numbers i) (run_in runs i) (get_or components i 0)) x → y ≡ over 24 (rows runs numbers components (i + 1)) a
  more n i y h room e f =
      laid 16 24 i (rows runs numbers components i) (sheet_variable (number numbers i) (run_in runs i) (get_or components i 0)) a x y
      (length_variables (number numbers) (run_in runs) (λ k. get_or components k 0) i) (omega arith) refl e f
      ∙ ap (λ b. over 24 b a) (variables_next (number numbers) (run_in runs) (λ k. get_or components k 0) i)

pub loop-i-init : goal.loop-i-init
loop-i-init c = let x = c.args in
    let f = x.chosen.families in
    sym (ap (λ b. over 24 b x.area.now) (variables_none (number x.chosen.numbers.now) (run_in f.state.now.runs) (λ k. get_or x.components.now k 0)) ∙ over_none 24 x.area.now (omega arith))

pub loop-i-preserved : goal.loop-i-preserved
loop-i-preserved c = let l = c.loop-i in
    let x = c.args in
    let runs = x.chosen.families.state.now.runs in
    let w = x.chosen.numbers_small.at l.i (omega arith) in
    more runs x.chosen.numbers.now x.components.now x.area.now l.area x.chosen.families.variables l.i _ (omega arith) c.requires l.invariant
    (over_same (24 + 16 * l.i) l.area _ (ap (λ z. sheet_variable z (run_in runs l.i) (get_or x.components.now l.i 0)) (held-Within (omega arith) w)) c.variable.ensures)
