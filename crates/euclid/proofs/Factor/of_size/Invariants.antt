-- `Factor::of_size` meets its contract: the loop's invariant is `Turn`, of the numbers that the locals' bits stand for.
use Rattle.ints.proofs.{nat_abs}
use Rattle.euclid.proofs.Turns.{Turn}
use Rattle.euclid.proofs.Factor.of_size.Given as goal

abbrev pub invariant-turns : goal.invariant-turns
invariant-turns l = Turn l.a l.b l.r0 l.r1 l.s0 l.s1 l.made

abbrev pub decreases-turns : goal.decreases-turns
decreases-turns l = nat_abs l.r1
