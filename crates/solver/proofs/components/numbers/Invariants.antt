-- `numbers` meets its contract: a lowest variable takes the next number, and another that of its lowest variable.
use mathlib.Core.Path.{◌≡◌}
use Prim.Native.Nat.{◌≤◌}
use lib.ListN.{length}
use Rattle.families.specs.ModelFindings.{leads_by, component_by}
use Rattle.solver.specs.StateArrays.{label_in}
use Rattle.lists.proofs.ArrayPass.{Filled}
use Rattle.solver.proofs.components.numbers.Given as goal

abbrev pub invariant-loop-i : goal.invariant-loop-i
invariant-loop-i l = (l.next ≤ l.i) × ((l.next ≡ length (leads_by (label_in l.labels) l.i)) × Filled 256 0 (component_by (label_in l.labels) l.n) l.i l.numbers)
