-- With each meeting a run fewer is left.
use Rattle.std.proofs.Common.{vec_len}
use Rattle.try_runs.proofs.orders.met.Given as goal

abbrev pub decreases-loop-left : goal.decreases-loop-left
decreases-loop-left l = vec_len l.left
