-- x = y as a test.
use Rattle.std.specs.Prelude.{Bool, false, eqb, ℤ, pos, negsuc}

abbrev pub is_equal : ℤ → ℤ → Bool
is_equal (pos m) (pos n) = eqb m n
is_equal (pos m) (negsuc n) = false
is_equal (negsuc m) (pos n) = false
is_equal (negsuc m) (negsuc n) = eqb m n
