-- What is left falls with each division.
use Rattle.try_euclid.proofs.by_subtraction.Given as goal

abbrev pub decreases-loop-rest : goal.decreases-loop-rest
decreases-loop-rest l = l.rest
