-- "1 to 1,000,000 in size with either sign": a nonzero coefficient, as carrying and the factor take it.
use Rattle.std.specs.Prelude.{Bool, not, ◌&&◌, ◌≢◌, ℤ, pos}
use Rattle.ints.specs.Within.{Within, is_within}
use Rattle.ints.specs.Equal.{is_equal}

pub record Coefficient (x : ℤ) : Type 0 where
  pub size : Within 1000000 x
  pub not_zero : x ≢ pos 0

-- the same as a test (proofs/Coefficient.antt: the two agree)
abbrev pub is_coefficient : ℤ → Bool
is_coefficient x = is_within 1000000 x && not (is_equal x (pos 0))
