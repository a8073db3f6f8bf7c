-- `in_force` meets its contract: the bounds that are left are those in force, and the weights stay.
use native.Mathlib.Omega.{arith}
use Rattle.solver.proofs.RowsInForce.{bounds_in_force, weights_in_force}
use Rattle.solver.proofs.variables.in_force.Goals as goal

pub returns-clause-bounds_of : goal.returns-clause-bounds_of
returns-clause-bounds_of c = let a = c.args.accepted in
    bounds_in_force a.lawful.job.bytes.now a.amendments.bytes.now a.faultless a.lawful.job.variables_counted c.loop-i.bounds c.overlay.new.bounds
    (record { at = λ i h. c.loop-i.invariant.0.done i (omega (arith, h)) }) c.overlay.ensures

pub returns-clause-weights_of : goal.returns-clause-weights_of
returns-clause-weights_of c = let a = c.args.accepted in
    weights_in_force a.lawful.job.bytes.now a.amendments.bytes.now a.faultless a.lawful.job.variables_counted c.loop-i.weights
    (record { at = λ i h. c.loop-i.invariant.1.done i (omega (arith, h)) })
