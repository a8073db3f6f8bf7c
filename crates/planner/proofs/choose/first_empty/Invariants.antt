-- `first_empty` meets its contract.
use Rattle.std.proofs.Common.{◌≡◌, None}
use Rattle.planner.specs.Choice.{NoneEmpty}
use Rattle.planner.proofs.choose.first_empty.Given as goal

abbrev pub invariant-loop-i : goal.invariant-loop-i
invariant-loop-i l = (l.empty ≡ None) × NoneEmpty l.runs l.i
