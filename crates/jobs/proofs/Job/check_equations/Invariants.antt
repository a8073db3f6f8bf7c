-- `Job::check_equations` meets its contract: past each row that keeps its rules, what is left of the checks gives the same first fault.
use Rattle.jobs.proofs.RowChecks.{Passed}
use Rattle.jobs.proofs.Job.check_equations.Given as goal

abbrev pub invariant-loop-k : goal.invariant-loop-k
invariant-loop-k l = Passed l.self.bytes.now l.k
