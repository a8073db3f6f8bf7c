-- `rename` meets its contract.
use Rattle.solver.specs.Labels.{Renames}
use Rattle.solver.proofs.components.rename.Given as goal

abbrev pub invariant-loop-i : goal.invariant-loop-i
invariant-loop-i l = Renames l.initial.labels l.low l.high l.i l.labels
