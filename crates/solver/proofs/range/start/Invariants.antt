-- `start` meets its contract.
use Rattle.runs.specs.Run.{empty}
use Rattle.lists.proofs.ArrayPass.{Filled}
use Rattle.solver.specs.VariableArrays.{begun}
use Rattle.solver.proofs.range.start.Given as goal

abbrev pub invariant-loop-i : goal.invariant-loop-i
invariant-loop-i l = Filled 256 empty (begun l.bounds) l.i l.runs
