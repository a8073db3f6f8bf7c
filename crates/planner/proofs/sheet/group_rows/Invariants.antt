-- `group_rows` meets its contract: row for row.
use mathlib.Core.Path.{◌≡◌}
use mathlib.Core.List.{List}
use Prim.Native.Nat.{ℕ, ◌*◌}
use lib.ListN.{length}
use lib.IntN.{ℤ}
use Rattle.runs.specs.declared.Run.{Run}
use Rattle.jobs.specs.Solution.{number}
use Rattle.jobs.specs.SheetLayout.{sheet_groups}
use Rattle.families.specs.ModelFindings.{leads_by}
use Rattle.little_endian.specs.Over.{over}
use Rattle.solver.specs.StateArrays.{label_in, run_in}
use Rattle.planner.specs.Choice.{chosen_in}
use Rattle.planner.proofs.sheet.group_rows.Given as goal

-- the rows of the groups that the first i variables lead
abbrev pub rows : List ℕ → List Run → List ℤ → ℕ → List ℕ
rows labels runs slopes i = sheet_groups (run_in runs) (chosen_in runs slopes) (number slopes) (leads_by (label_in labels) i)

abbrev pub invariant-loop-i : goal.invariant-loop-i
invariant-loop-i l = (l.at ≡ 16 * length (leads_by (label_in l.chosen.families.state.now.labels) l.i)) × (l.part ≡ over 0 (rows l.chosen.families.state.now.labels l.chosen.families.state.now.runs l.chosen.slopes.now l.i) l.initial.part)
