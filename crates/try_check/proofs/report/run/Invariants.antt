-- What is printed lies behind.
use Rattle.std.proofs.Common.{◌≤◌}
use Rattle.try_check.proofs.report.run.Given as goal

abbrev pub invariant-loop-i : goal.invariant-loop-i
invariant-loop-i g l = l.printed ≤ l.i
