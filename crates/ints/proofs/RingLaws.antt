-- ℤ is a commutative ring: the laws that the kit does not have, and the rearrangements that the ring solver rests on.
-- The kit has +ℤ-assoc, +ℤ-idl, +ℤ-idr, *ℤ-comm, *ℤ-zero and zero-*ℤ (lib.IntN).
use mathlib.Core.Path.{◌≡◌}
use native.Mathlib.Omega.{arith}
use lib.IntN.{ℤ, pos, negsuc, ◌+ℤ◌, ◌-ℤ◌, ◌*ℤ◌}
use Rattle.ints.proofs.Difference.{differences, for1, for2, for3, for4}

pub *ℤ_assoc : (x y z : ℤ) → (x *ℤ y) *ℤ z ≡ x *ℤ (y *ℤ z)
*ℤ_assoc = for3 _ (λ a b c d e f. simp differences (omega arith))

pub *ℤ_distribr : (x y z : ℤ) → (x +ℤ y) *ℤ z ≡ x *ℤ z +ℤ y *ℤ z
*ℤ_distribr = for3 _ (λ a b c d e f. simp differences (omega arith))

pub *ℤ_idl : (x : ℤ) → pos 1 *ℤ x ≡ x
*ℤ_idl = for1 _ (λ a b. simp differences (omega arith))

pub *ℤ_idr : (x : ℤ) → x *ℤ pos 1 ≡ x
*ℤ_idr = for1 _ (λ a b. simp differences (omega arith))

-- ---- rearrangements
pub +ℤ_swap : (x y z : ℤ) → x +ℤ (y +ℤ z) ≡ y +ℤ (x +ℤ z)
+ℤ_swap = for3 _ (λ a b c d e f. simp differences (omega arith))

pub *ℤ_swap : (x y z : ℤ) → x *ℤ (y *ℤ z) ≡ y *ℤ (x *ℤ z)
*ℤ_swap = for3 _ (λ a b c d e f. simp differences (omega arith))

-- two terms with one monomial x
pub merge : (c d x p : ℤ) → (c +ℤ d) *ℤ x +ℤ p ≡ c *ℤ x +ℤ (d *ℤ x +ℤ p)
merge = for4 _ (λ a b c d e f g h. simp differences (omega arith))

-- coefficients and monomials of a product
pub regroup : (c d x y : ℤ) → c *ℤ d *ℤ (x *ℤ y) ≡ c *ℤ x *ℤ (d *ℤ y)
regroup = for4 _ (λ a b c d e f g h. simp differences (omega arith))

-- a common factor u before a remainder a
pub factor : (u v p a : ℤ) → u *ℤ v +ℤ (u *ℤ p +ℤ a) ≡ u *ℤ (v +ℤ p) +ℤ a
factor = for4 _ (λ a b c d e f g h. simp differences (omega arith))

-- subtracting is adding −1 times
pub minus_one : (x y : ℤ) → negsuc 0 *ℤ pos 1 *ℤ y +ℤ x ≡ x -ℤ y
minus_one = for2 _ (λ a b c d. simp differences (omega arith))

pub sub_zero : (x y : ℤ) → x -ℤ y ≡ pos 0 → x ≡ y
sub_zero = for2 _ (λ a b c d. simp differences (omega arith))
