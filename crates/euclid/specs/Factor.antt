-- What inner callers go by.
use Rattle.std.specs.Prelude.{ℤ, nat_abs, ◌*ℤ◌}
use Rattle.ints.specs.Within.{Within}
use Rattle.ints.specs.Divides.{Congruent, IsGcd}

-- the greatest common divisor of a and b is g, and a·x is g modulo b
pub record IsFactor (a b g x : ℤ) : Type 0 where
  pub gcd : IsGcd a b g
  pub cofactor : Congruent b (a *ℤ x) g
  pub small : Within (nat_abs b) x
