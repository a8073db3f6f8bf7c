-- What is left falls with each turn.
use Rattle.try_euclid.proofs.left.Given as goal

abbrev pub decreases-loop-r : goal.decreases-loop-r
decreases-loop-r l = l.r
