-- `Job::variable` meets its contract: field by field the row is that of the definition.
use Rattle.std.proofs.Common.{rules, sym, ◌∙◌}
use Rattle.jobs.proofs.JobOf.{variable_read}
use Rattle.jobs.proofs.Job.variable.Goals as goal

pub returns : goal.returns
returns c = search rules ∙ sym (variable_read c.args.self.bytes.now c.args.self.variables_counted c.args.i c.requires)
