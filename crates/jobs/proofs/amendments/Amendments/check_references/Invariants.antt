-- `check_references` meets its contract: past each sheet that keeps the rule.
use Rattle.std.proofs.Common.{◌≡◌, ℕ, ◌<◌}
use Rattle.jobs.specs.Amendments.{amendments_of}
use Rattle.jobs.specs.ReasonTable.{serial_before, Misreferenced}
use Rattle.jobs.proofs.amendments.Amendments.check_references.Given as goal

abbrev pub invariant-loop-t : goal.invariant-loop-t
invariant-loop-t l = (l.before ≡ serial_before (amendments_of l.self.bytes.now) l.t) × ((u : ℕ) → u < l.t → ¬ Misreferenced l.shape.variables (amendments_of l.self.bytes.now) u)
