-- `check_zeros` meets its contract: past each sheet with nothing in its zero field.
use Rattle.std.proofs.Common.{ℕ, ◌<◌, ◌≢◌}
use Rattle.jobs.specs.Amendments.{zero_at}
use Rattle.jobs.proofs.amendments.Amendments.check_zeros.Given as goal

abbrev pub invariant-loop-t : goal.invariant-loop-t
invariant-loop-t l = (u : ℕ) → u < l.t → ¬ (zero_at l.self.bytes.now u ≢ 0)
