use Rattle.std.proofs.Common.{◌≤◌}
use Rattle.try_division.proofs.random_pairs.Given as goal

abbrev pub invariant-loop-i : goal.invariant-loop-i
invariant-loop-i g l = l.agree ≤ l.i
