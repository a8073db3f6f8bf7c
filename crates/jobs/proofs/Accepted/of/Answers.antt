-- `Accepted::of` meets its contract: the job's checks stand before the amendments', and of these each pass before the next.
use Rattle.std.proofs.Common.{rules, ◌∙◌, ap, subst, sym}
use Rattle.jobs.specs.Call.{lending_nothing}
use Rattle.jobs.specs.Job.{variable_count}
use Rattle.jobs.specs.ReasonTable.{Faultless}
use Rattle.jobs.proofs.AmendmentChecks.{zeros_fault, references_fault, twice_fault, range_fault, no_fault, accepted_faultless}
use Rattle.jobs.proofs.Accepted.of.Goals as goal

pub returns-in_err-check_zeros-clause-first_fault : goal.returns-in_err-check_zeros-clause-first_fault
returns-in_err-check_zeros-clause-first_fault c = let lawful = c.in_ok-lawful in
    let sheets = c.in_ok-amendments in
    let n_is = lawful.lawful.job.variables_counted ∙ ap variable_count lawful.ensures.opened in
    search (rules, zeros_fault c.args.job.now c.args.amendments.now sheets.amendments.bytes.now sheets.ensures.opened lawful.ensures.first_fault sheets.ensures.refused n_is sheets.amendments.counted c.in_err-check_zeros.ensures)

pub returns-in_err-check_references-clause-first_fault : goal.returns-in_err-check_references-clause-first_fault
returns-in_err-check_references-clause-first_fault c = let lawful = c.in_ok-lawful in
    let sheets = c.in_ok-amendments in
    let n_is = lawful.lawful.job.variables_counted ∙ ap variable_count lawful.ensures.opened in
    search (rules, references_fault c.args.job.now c.args.amendments.now sheets.amendments.bytes.now sheets.ensures.opened lawful.ensures.first_fault sheets.ensures.refused n_is sheets.amendments.counted c.in_ok-check_zeros.ensures c.in_err-check_references.ensures)

pub returns-in_err-check_twice-clause-first_fault : goal.returns-in_err-check_twice-clause-first_fault
returns-in_err-check_twice-clause-first_fault c = let lawful = c.in_ok-lawful in
    let sheets = c.in_ok-amendments in
    let n_is = lawful.lawful.job.variables_counted ∙ ap variable_count lawful.ensures.opened in
    search (rules, twice_fault c.args.job.now c.args.amendments.now sheets.amendments.bytes.now sheets.ensures.opened lawful.ensures.first_fault sheets.ensures.refused n_is sheets.amendments.counted c.in_ok-check_zeros.ensures c.in_ok-check_references.ensures c.in_err-check_twice.ensures)

pub returns-in_err-check_ranges-clause-first_fault : goal.returns-in_err-check_ranges-clause-first_fault
returns-in_err-check_ranges-clause-first_fault c = let lawful = c.in_ok-lawful in
    let sheets = c.in_ok-amendments in
    let n_is = lawful.lawful.job.variables_counted ∙ ap variable_count lawful.ensures.opened in
    search (rules, range_fault c.args.job.now c.args.amendments.now sheets.amendments.bytes.now sheets.ensures.opened lawful.ensures.first_fault sheets.ensures.refused n_is sheets.amendments.counted c.in_ok-check_zeros.ensures c.in_ok-check_references.ensures c.in_ok-check_twice.ensures c.in_err-check_ranges.ensures)

pub invariant_of-result : goal.invariant_of-result
invariant_of-result c = let lawful = c.in_ok-lawful in
    let sheets = c.in_ok-amendments in
    let n_is = lawful.lawful.job.variables_counted ∙ ap variable_count lawful.ensures.opened in
    record { faultless = subst (λ s. Faultless (lending_nothing s sheets.amendments.bytes.now)) (sym lawful.ensures.opened) (accepted_faultless c.args.job.now c.args.amendments.now sheets.amendments.bytes.now sheets.ensures.opened lawful.ensures.first_fault sheets.ensures.refused n_is sheets.amendments.counted c.in_ok-check_zeros.ensures c.in_ok-check_references.ensures c.in_ok-check_twice.ensures c.in_ok-check_ranges.ensures) }

pub returns-clause-first_fault : goal.returns-clause-first_fault
returns-clause-first_fault c = let lawful = c.in_ok-lawful in
    let sheets = c.in_ok-amendments in
    let n_is = lawful.lawful.job.variables_counted ∙ ap variable_count lawful.ensures.opened in
    no_fault c.args.job.now c.args.amendments.now sheets.amendments.bytes.now sheets.ensures.opened lawful.ensures.first_fault sheets.ensures.refused n_is sheets.amendments.counted c.in_ok-check_zeros.ensures c.in_ok-check_references.ensures c.in_ok-check_twice.ensures c.in_ok-check_ranges.ensures
