-- `fill` meets its contract.
use Rattle.runs.specs.Run.{empty}
use Rattle.lists.proofs.ArrayPass.{Passed}
use Rattle.solver.specs.Runs.{gathered}
use Rattle.solver.proofs.reduce.fill.Given as goal

abbrev pub invariant-loop-i : goal.invariant-loop-i
invariant-loop-i l = Passed 256 empty (gathered l.components.labels l.initial.runs) l.initial.runs l.i l.runs
