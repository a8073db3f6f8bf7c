use Rattle.std.proofs.Common.{◌≤ℤ◌, ◌*ℤ◌, ◌+ℤ◌, pos}
use Rattle.try_division.proofs.small_pairs.Given as goal

abbrev pub invariant-loop-n : goal.invariant-loop-n
invariant-loop-n g l = pos l.agree ≤ℤ (pos 25 *ℤ (l.n +ℤ pos 50))

abbrev pub invariant-loop-d : goal.invariant-loop-d
invariant-loop-d g l = (pos l.agree ≤ℤ ((pos 25 *ℤ (l.n +ℤ pos 50)) +ℤ (l.d +ℤ pos 12))) × (l.d ≤ℤ pos 13)
