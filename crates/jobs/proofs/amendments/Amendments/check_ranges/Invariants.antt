-- `check_ranges` meets its contract: past each sheet with bounds in range.
use Rattle.std.proofs.Common.{ℕ, ◌<◌}
use Rattle.jobs.specs.Bounds.{Bounded}
use Rattle.jobs.specs.Amendments.{amendments_of, amendment, amendment_bounds}
use Rattle.jobs.proofs.amendments.Amendments.check_ranges.Given as goal

abbrev pub invariant-loop-t : goal.invariant-loop-t
invariant-loop-t l = (u : ℕ) → u < l.t → ¬ ¬ Bounded (amendment_bounds (amendment (amendments_of l.self.bytes.now) u))
