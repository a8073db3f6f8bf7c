-- `runs::meeting` meets its contract.
use mathlib.Core.Path.{sym, ◌∙◌}
use borrow.Author.Rules.{rules}
use Rattle.runs.proofs.Refusals.{OneForm-iff, meeting_unless}
use Rattle.runs.proofs.meeting.Goals as goal

pub meet-requires-clause-one_form : goal.meet-requires-clause-one_form
meet-requires-clause-one_form c = (OneForm-iff c.args.a).0 (sym c.is_one_form.ensures ∙ c.if-is_one_form.true)

pub meet-requires-clause-other_one_form : goal.meet-requires-clause-other_one_form
meet-requires-clause-other_one_form c = (OneForm-iff c.args.b).0 (sym c.is_one_form-then-is_one_form.ensures ∙ c.if-is_one_form-2.true)

pub returns-then-is_one_form-2-clause-refused_unless : goal.returns-then-is_one_form-2-clause-refused_unless
returns-then-is_one_form-2-clause-refused_unless c = meeting_unless {a = c.args.a} {b = c.args.b} (search rules)

pub returns-else-is_one_form-clause-refused_unless : goal.returns-else-is_one_form-clause-refused_unless
returns-else-is_one_form-clause-refused_unless c = meeting_unless {a = c.args.a} {b = c.args.b} (search rules)
