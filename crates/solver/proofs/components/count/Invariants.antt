-- `count` meets its contract: so many of the variables before v are lowest ones.
use mathlib.Core.Path.{◌≡◌}
use lib.ListN.{length}
use Prim.Native.Nat.{◌≤◌}
use Rattle.families.specs.ModelFindings.{leads_by}
use Rattle.solver.specs.StateArrays.{label_in}
use Rattle.solver.proofs.components.count.Given as goal

abbrev pub invariant-loop-v : goal.invariant-loop-v
invariant-loop-v l = (l.g ≡ length (leads_by (label_in l.labels) l.v)) × (l.g ≤ l.v)
