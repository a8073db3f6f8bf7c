-- `Job::open` meets its contract: there are too many variables or too many equations.
use Rattle.std.proofs.Common.{rules, arith}
use Rattle.jobs.proofs.HeaderChecks.{too_many}
use Rattle.jobs.proofs.Job.open.Goals as goal

pub returns-then-variables-gt256-clause-first_fault : goal.returns-then-variables-gt256-clause-first_fault
returns-then-variables-gt256-clause-first_fault c = too_many c.args.bytes.now (omega arith) (search rules) c.variable_count-variables.ensures c.equation_count-equations.ensures c.then-variables-gt256.either
