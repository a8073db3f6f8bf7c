-- `check_twice` meets its contract: after each sheet those variables are taken for which one so far is in force.
use Rattle.std.proofs.Common.{ℕ, ◌<◌}
use Rattle.jobs.specs.Amendments.{amendments_of}
use Rattle.jobs.specs.ReasonTable.{Twice}
use Rattle.jobs.proofs.SheetMarks.{Taken}
use Rattle.jobs.proofs.amendments.Amendments.check_twice.Given as goal

abbrev pub invariant-loop-t : goal.invariant-loop-t
invariant-loop-t l = let xs = amendments_of l.self.bytes.now in
    Taken xs l.t l.taken × ((u : ℕ) → u < l.t → ¬ Twice xs u)
