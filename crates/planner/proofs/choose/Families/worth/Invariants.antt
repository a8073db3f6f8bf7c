-- `objective` meets its contract: term for term.
use mathlib.Core.Path.{◌≡◌}
use Rattle.planner.specs.Choice.{objective_in}
use Rattle.planner.proofs.choose.Families.worth.Given as goal

abbrev pub invariant-loop-i : goal.invariant-loop-i
invariant-loop-i l = l.worth ≡ objective_in l.self.weights.now l.numbers l.i
