-- `apart` meets its contract.
use Rattle.lists.proofs.ArrayPass.{Filled}
use Rattle.solver.proofs.components.Components.apart.Given as goal

abbrev pub invariant-loop-i : goal.invariant-loop-i
invariant-loop-i l = Filled 256 0 (λ k. k) l.i l.labels
