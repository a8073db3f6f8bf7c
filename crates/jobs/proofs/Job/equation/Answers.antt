-- `Job::equation` meets its contract: field by field the row is that of the definition.
use Rattle.std.proofs.Common.{rules, sym, ◌∙◌}
use Rattle.jobs.proofs.JobOf.{equation_read}
use Rattle.jobs.proofs.Job.equation.Goals as goal

pub returns : goal.returns
returns c = search rules ∙ sym (equation_read c.args.self.bytes.now c.args.self.variables_counted c.args.self.equations_counted c.args.k c.requires)
