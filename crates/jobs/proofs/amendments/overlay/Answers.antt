-- `overlay` meets its contract: each sheet is put over what the sheets before it left.
use Rattle.std.proofs.Common.{arith}
use Rattle.jobs.proofs.AmendmentsInForce.{length-amendments_of}
use Rattle.jobs.proofs.amendments.overlay.Goals as goal

pub returns : goal.returns
returns c = let l = c.loop-t in
    let whole = length-amendments_of c.args.amendments.now in
    record {
      last = λ t h f. l.invariant.last t (omega (arith, h, whole, c.loop-t-test.false)) (λ u p q. f u p (omega (arith, q, whole)));
      others = λ i f. l.invariant.others i (λ t h. f t (omega (arith, h, whole)));
    }
