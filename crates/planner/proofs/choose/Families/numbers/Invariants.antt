-- `numbers` meets its contract.

use lib.IntN.{pos}
use Rattle.lists.proofs.ArrayPass.{Filled}
use Rattle.planner.specs.Choice.{number_in}
use Rattle.planner.proofs.choose.Families.numbers.Given as goal

abbrev pub invariant-loop-i : goal.invariant-loop-i
invariant-loop-i l = Filled 256 (pos 0) (number_in l.self.state.now.labels l.self.state.now.runs l.slopes) l.i l.numbers
