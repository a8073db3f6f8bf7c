-- `LawfulJob::of` meets its contract: the header's checks stand before the variables' rows', and these before the equations' rows'.
use Rattle.std.proofs.Common.{rules}
use Rattle.jobs.proofs.JobChecks.{variable_fault, equation_fault, checked_lawful}
use Rattle.jobs.proofs.LawfulJob.of.Goals as goal

pub returns-in_err-check_variables-clause-first_fault : goal.returns-in_err-check_variables-clause-first_fault
returns-in_err-check_variables-clause-first_fault c = let job = c.in_ok-job in
    search (rules, variable_fault c.args.bytes.now job.job.bytes.now job.ensures.opened job.ensures.first_fault job.job.variables_counted c.in_err-check_variables.ensures)

pub returns-in_err-check_equations-clause-first_fault : goal.returns-in_err-check_equations-clause-first_fault
returns-in_err-check_equations-clause-first_fault c = let job = c.in_ok-job in
    search (rules, equation_fault c.args.bytes.now job.job.bytes.now job.ensures.opened job.ensures.first_fault job.job.variables_counted c.in_ok-check_variables.ensures c.in_err-check_equations.ensures)

pub invariant_of-result : goal.invariant_of-result
invariant_of-result c = let job = c.in_ok-job in
    record { lawful = checked_lawful c.args.bytes.now job.job.bytes.now job.ensures.opened job.ensures.first_fault job.job.variables_counted c.in_ok-check_variables.ensures c.in_ok-check_equations.ensures }

pub returns-clause-first_fault : goal.returns-clause-first_fault
returns-clause-first_fault c = let job = c.in_ok-job in
    equation_fault c.args.bytes.now job.job.bytes.now job.ensures.opened job.ensures.first_fault job.job.variables_counted c.in_ok-check_variables.ensures c.in_ok-check_equations.ensures
