-- How large the numbers of a congruence u·i ≡ v (mod d) may be: with these no step of its solution leaves 64 bits.
use Rattle.std.specs.Prelude.{ℤ, pos, ◌≤ℤ◌, ◌<ℤ◌}
use Rattle.ints.specs.Within.{Within}

pub record InReach (u v d : ℤ) : Type 0 where
  pub factor : Within 1000000000000000000 u
  pub value : Within 1000000000000000000 v
  pub above : pos 0 <ℤ d
  pub modulus : d ≤ℤ pos 2000000000
