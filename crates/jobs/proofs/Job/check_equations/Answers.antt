-- `Job::check_equations` meets its contract: a row that names other variables is where the checks stop.
use Rattle.std.proofs.Common.{arith}
use Rattle.jobs.proofs.RowChecks.{row_misnamed}
use Rattle.jobs.proofs.Job.check_equations.Goals as goal

pub returns-then-is_misnamed : goal.returns-then-is_misnamed
returns-then-is_misnamed c = let job = c.args.self in
    row_misnamed job.bytes.now c.loop-k.k (omega (arith, c.loop-k-test.true, job.equations_counted)) job.variables_counted c.equation-e.ensures c.loop-k.invariant c.is_misnamed.ensures c.if-is_misnamed.true
