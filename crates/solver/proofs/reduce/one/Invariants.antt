-- `one` meets its contract: outside of its span the component has no variables.
use Rattle.runs.specs.Run.{empty}
use Rattle.lists.proofs.ArrayPass.{Passed}
use Rattle.solver.proofs.ReducedRuns.{moved}
use Rattle.solver.proofs.reduce.one.Given as goal

abbrev pub invariant-loop-i : goal.invariant-loop-i
invariant-loop-i l = Passed 256 empty (moved l.components.labels l.fn.runs l.g l.kept) l.initial.runs l.i l.runs
