-- `write` meets its contract: row for row, behind the header.
use mathlib.Core.Path.{◌≡◌}
use mathlib.Core.List.{List}
use Prim.Native.Nat.{ℕ, ◌+◌, ◌*◌}
use lib.ListN.{get_or}
use Rattle.little_endian.specs.Over.{over}
use Rattle.jobs.specs.MapLayout.{map_rows}
use Rattle.families.specs.ModelFindings.{component_by}
use Rattle.solver.specs.StateArrays.{label_in}
use Rattle.solver.specs.declared.structure.Structure.{Structure}
use Rattle.planner.proofs.map.write.Given as goal

-- the number of a variable's component, and of an equation's
abbrev pub of_variable : Structure → ℕ → ℕ → ℕ
of_variable t n = component_by (label_in t.labels) n

abbrev pub of_equation : Structure → ℕ → ℕ → ℕ
of_equation t n k = component_by (label_in t.labels) n (get_or t.homes k 0)

-- the area with the rows of the first i of n variables, and with those of the first k equations
abbrev pub with_variables : Structure → ℕ → ℕ → List ℕ → List ℕ
with_variables t n i a = over 24 (map_rows (of_variable t n) (λ i. get_or t.degrees i 0) i) a

abbrev pub with_equations : Structure → ℕ → ℕ → List ℕ → List ℕ
with_equations t n k a = over (24 + 4 * n) (map_rows (of_equation t n) (λ k. get_or t.kinds k 0) k) a

abbrev pub invariant-loop-i : goal.invariant-loop-i
invariant-loop-i l = l.map ≡ with_variables l.structure l.fn.shape.variables l.i l.initial.map

abbrev pub invariant-loop-k : goal.invariant-loop-k
invariant-loop-k l = l.map ≡ with_equations l.structure l.fn.shape.variables l.k l.initial.map
