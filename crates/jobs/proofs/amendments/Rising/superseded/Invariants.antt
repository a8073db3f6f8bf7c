-- `superseded` meets its contract: after each sheet those are marked that it or one before it supersedes.
use Rattle.jobs.specs.Amendments.{amendments_of}
use Rattle.jobs.proofs.SheetMarks.{Marked}
use Rattle.jobs.proofs.amendments.Rising.superseded.Given as goal

abbrev pub invariant-loop-t : goal.invariant-loop-t
invariant-loop-t l = Marked (amendments_of l.self.amendments.bytes.now) l.self.count l.t l.superseded
