-- `numbers` meets its contract.
use mathlib.Core.Path.{◌∙◌, ap}
use native.Mathlib.Omega.{arith}
use lib.IntN.{pos}
use borrow.Author.Rules.{rules}
use Rattle.lists.proofs.ArrayPass.{filled}
use Rattle.jobs.specs.Solution.{number}
use Rattle.solver.specs.StateArrays.{label_in, run_in}
use Rattle.solver.proofs.In64Bits.{held_element}
use Rattle.planner.specs.Choice.{number_at, number_in}
use Rattle.planner.proofs.ChosenNumber.{held_number}
use Rattle.planner.proofs.choose.Families.numbers.Goals as goal

pub loop-i-preserved : goal.loop-i-preserved
loop-i-preserved c = let f = c.args.self in
    let i = c.loop-i.i in
    let slope = number c.args.slopes.now (label_in f.state.now.labels i) in
    let e = c.number.ensures ∙ ap (number_at (run_in f.state.now.runs i)) (held_element slope (search rules)) in
    filled (pos 0) (number_in f.state.now.labels f.state.now.runs c.args.slopes.now) i c.loop-i.numbers c.loop-i.invariant _ (omega arith) (held_number (f.members.form.at i (omega arith)) (f.none_empty.at i (omega arith)) slope e)
