-- `service_port::plan_early` keeps the demand: so far as it turns away, the definitions do.
use native.Mathlib.Omega.{arith}
use Rattle.planner.specs.Lending.{lent_in}
use Rattle.demands.proofs.Carried.{early_turns_away}
use Rattle.demands.proofs.service_port.plan_early.Goals as goal

pub returns-then-job-lt24-clause-turns_away : goal.returns-then-job-lt24-clause-turns_away
returns-then-job-lt24-clause-turns_away c = early_turns_away c.args.job.now c.args.amendments.now (lent_in c.args.areas.now) (omega (arith, c.if-job-lt24.true))
