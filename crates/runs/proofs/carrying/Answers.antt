-- `runs::carrying` meets its contract.
use mathlib.Core.Path.{sym, ◌∙◌}
use borrow.Author.Rules.{rules}
use Rattle.runs.proofs.Refusals.{OneForm-iff, carrying_unless}
use Rattle.runs.proofs.carrying.Goals as goal

pub carry-requires-clause-one_form : goal.carry-requires-clause-one_form
carry-requires-clause-one_form c = (OneForm-iff c.args.q).0 (sym c.is_one_form.ensures ∙ c.if-is_one_form.true)

pub returns-then-is_one_form-clause-refused_unless : goal.returns-then-is_one_form-clause-refused_unless
returns-then-is_one_form-clause-refused_unless c = carrying_unless {e = c.args.e} {q = c.args.q} (search rules)

pub returns-else-in_limits-clause-refused_unless : goal.returns-else-in_limits-clause-refused_unless
returns-else-in_limits-clause-refused_unless c = carrying_unless {e = c.args.e} {q = c.args.q} (search rules)
