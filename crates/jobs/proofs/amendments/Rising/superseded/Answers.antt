-- `superseded` meets its contract: after each sheet those are marked that it or one before it supersedes.
use Rattle.std.proofs.Common.{rules, arith, sym, subst, ◌+◌}
use Rattle.lists.proofs.ArrayPass.{all_same}
use Rattle.jobs.specs.Amendments.{amendments_of}
use Rattle.jobs.proofs.AmendmentsInForce.{length-amendments_of}
use Rattle.jobs.proofs.SheetMarks.{Marked, none_marked, mark_skipped, mark_put, all_marked}
use Rattle.jobs.proofs.amendments.Rising.superseded.Goals.{then-serial-ne0, else-serial-ne0}
use Rattle.jobs.proofs.amendments.Rising.superseded.Goals as goal

pub loop-t-init : goal.loop-t-init
loop-t-init c = none_marked _ _ (search rules) (λ u. all_same 512 u _)

pub loop-t-preserved : goal.loop-t-preserved
loop-t-preserved c = let rising = c.args.self in
    let l = c.loop-t in
    let xs = amendments_of rising.amendments.bytes.now in
    elim c.if-serial-ne0.branch [
      | then-serial-ne0 w ↦ subst (Marked xs rising.count (l.t + 1)) (sym w.superseded-is) (mark_put rising.referenced c.loop-t-test.true l.invariant c.read-serial.ensures w.if-serial-ne0.true w.place-u.ensures (omega (arith, rising.within, rising.amendments.few)))
      | else-serial-ne0 w ↦ subst (Marked xs rising.count (l.t + 1)) (sym w.superseded-is) (mark_skipped rising.referenced c.loop-t-test.true l.invariant c.read-serial.ensures w.if-serial-ne0.false)
    ]

pub returns : goal.returns
returns c = let rising = c.args.self in
    let whole = length-amendments_of rising.amendments.bytes.now in
    all_marked rising.amendments.bytes.now (omega (arith, whole, rising.amendments.counted, c.requires)) (omega (arith, whole, rising.amendments.counted, c.requires, c.loop-t-test.false)) c.loop-t.invariant
