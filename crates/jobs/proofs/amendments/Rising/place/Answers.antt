-- `place` meets its contract: the numbers before `low` are smaller, and those from `high` on are not.
use Rattle.std.proofs.Common.{arith, ap}
use Rattle.jobs.proofs.AmendmentsInForce.{behind_next, ahead_next}
use Rattle.jobs.proofs.amendments.Rising.place.Goals as goal

pub loop-low-preserved-then-read-serial : goal.loop-low-preserved-then-read-serial
loop-low-preserved-then-read-serial c = let i = c.loop-low.invariant in
    let read = ap (λ a. a.serial) c.read.ensures in
    (omega arith, (i.1.0, (behind_next c.args.self.referenced c.args.serial _ (omega arith) (omega (arith, c.if-read-serial.true, read)), i.1.1.1)))

pub loop-low-preserved : goal.loop-low-preserved
loop-low-preserved c = let i = c.loop-low.invariant in
    let read = ap (λ a. a.serial) c.read.ensures in
    (omega arith, (omega arith, (i.1.1.0, ahead_next c.args.self.referenced c.args.serial _ (omega (arith, c.if-read-serial.false, read)))))
