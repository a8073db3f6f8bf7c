-- `start` meets its contract.
use mathlib.Core.Path.{sym, subst}
use native.Mathlib.Omega.{arith}
use Rattle.runs.specs.Run.{OneForm}
use Rattle.families.proofs.StartState.{interval_form}
use Rattle.solver.proofs.range.start.Goals as goal

pub meet-requires-clause-other_one_form : goal.meet-requires-clause-other_one_form
meet-requires-clause-other_one_form c = let b = c.requires.bounded_by.at c.loop-i.i (omega arith) in subst OneForm (sym c.interval.ensures) (interval_form _ _ b.low b.high)
