-- `check_references` meets its contract: past each sheet that keeps the rule.
use Rattle.std.proofs.Common.{rules, sym, ◌∙◌, ap}
use native.Mathlib.Numerals.{add-one}
use Rattle.jobs.specs.Amendments.{amendments_of}
use Rattle.jobs.specs.ReasonTable.{serial_before}
use Rattle.jobs.proofs.FirstRow.{none_more}
use Rattle.jobs.proofs.amendments.Amendments.check_references.Goals as goal

pub loop-t-preserved : goal.loop-t-preserved
loop-t-preserved c = let l = c.loop-t in
    let xs = amendments_of c.args.self.bytes.now in
    (ap (λ a. a.serial) c.read-a.ensures ∙ ap (serial_before xs) (sym (add-one l.t)), none_more l.t l.invariant.1 (search rules))
