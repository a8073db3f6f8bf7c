-- `variables` meets its contract: row for row.
use mathlib.Core.Path.{◌≡◌}
use mathlib.Core.List.{List}
use Prim.Native.Nat.{ℕ}
use lib.ListN.{get_or}
use lib.IntN.{ℤ}
use Rattle.runs.specs.declared.Run.{Run}
use Rattle.jobs.specs.Solution.{number}
use Rattle.jobs.specs.SheetLayout.{sheet_variables}
use Rattle.solver.specs.StateArrays.{run_in}
use Rattle.little_endian.specs.Over.{over}
use Rattle.planner.proofs.sheet.variables.Given as goal

-- the rows of the first i variables
abbrev pub rows : List Run → List ℤ → List ℕ → ℕ → List ℕ
rows runs numbers components i = sheet_variables (number numbers) (run_in runs) (λ k. get_or components k 0) i

abbrev pub invariant-loop-i : goal.invariant-loop-i
invariant-loop-i l = l.area ≡ over 24 (rows l.chosen.families.state.now.runs l.chosen.numbers.now l.components l.i) l.initial.area
