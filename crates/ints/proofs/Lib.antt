-- Laws of ℤ, for the proofs of every crate. Most of what a proof needs comes from this root:
--
--     use Rattle.ints.proofs.{ℤ, pos, ◌+ℤ◌, ◌*ℤ◌, ◌≤ℤ◌, List, [], ◌∷◌, arith, ring, terms, lin, lin₀, ◌&◌, facts, prod}
--
-- One example of each tool; Examples.antt has these and more, and the must-fail edits beside it show what each refuses.
--
--     square : (x y : ℤ) → (x +ℤ y) *ℤ (x +ℤ y) ≡ x *ℤ x +ℤ pos 2 *ℤ x *ℤ y +ℤ y *ℤ y
--     square x y = ring (x ∷ y ∷ []) (search terms depth 20) (search terms depth 20) tt
--
--     next : (x y z : ℤ) → x ≤ℤ y → y <ℤ z → (x +ℤ pos 1) ≤ℤ z
--     next x y z h k = lin (x ∷ y ∷ z ∷ []) (h & k) (search facts depth 20) (omega arith)
--
--     grows : (s k : ℤ) → pos 1 ≤ℤ s → pos 0 ≤ℤ k → k ≤ℤ (s *ℤ k)
--     grows s k h l = lin (s ∷ k ∷ []) (prod h l) (search facts depth 20) (omega arith)
--
--     fits : (x y : ℤ) → Within 2000000000 x → Within 2000000000 y → SFits w64 (x *ℤ y)
--     fits x y h k = lin (x ∷ y ∷ []) (Within-mul h k) (search signed depth 20) (omega arith)
--
-- A few habits. `≤ℤ` binds tighter than `+ℤ`: write (x +ℤ pos 1) ≤ℤ z. ℤ's operations compute at constructors, and `lin`
-- does not read what is left of `pos n +ℤ pos 1`: state the step over variables of ℤ, and instantiate it. A fact that is
-- itself an `rw ..` wants a typed `let`. A long statement wants more steps: (search facts depth 20 fits 5000). `omega` takes
-- 64 naturals, so some 30 monomials that do not cancel: split a longer step.
--
-- The files, in the order in which they rest on each other:

-- integers as differences of naturals: the ground
pub mod Difference
-- the order (`le_trans`, `le_antisym`, `le_or_lt`), and the tests `lt_z` and `le_z`
pub mod Order
-- the laws of the ring
pub mod RingLaws
-- polynomials and their normal form
pub mod Polynomial
-- the tool `ring`
pub mod Ring
-- the tool `lin`
pub mod Linear
-- products of facts and of sizes (`prod`, `Within-mul`), cancelling a factor (`cancel`)
pub mod Products
-- the tests `is_within` and `is_equal`
pub mod Within
pub mod Equal
-- what the checker asks of signed code: `lin` with the ruleset `signed`
pub mod Signed
-- division rounded down: `div_mod`, `mod_range`, and no other quotient and remainder (`div_mod_unique`); rounding a bound loses no
-- whole number (`floor_iff`, `ceil_iff`), `floor_mono`, `floor-Within`; each with a twin for a negative divisor (`-neg`)
pub mod Floor
-- residues, as two's complement has them
pub mod Residues
-- the machine's division, and the floor from it: one less where the signs differ (`floor_same`, `floor_less`)
pub mod Truncated
-- divisibility: `gauss`; an exact quotient (`floor_exact`, `divides_iff`); each class has one member from 0 to d − 1, the
-- remainder (`mod-Congruent`, `mod_least`)
pub mod Divides
-- the greatest common divisor (`gcd_is`, `gcd_only`), with Bézout's identity (`bezout`)
pub mod Gcd
-- u·x ≡ v (mod d): no solution, or one class modulo d / gcd(u, d) (`solutions`, `class`)
pub mod Congruence
-- what callers of the division working go by: within the limits it gives the floor (`gives_floor`), outside it `refuses`
pub mod Answers
-- each tool at work
pub mod Examples
pub use lib.IntN.{ℤ, pos, negsuc, neg_ℤ, nat_abs, ◌+ℤ◌, ◌-ℤ◌, ◌*ℤ◌}
pub use lib.Signed.{◌≤ℤ◌, ◌<ℤ◌, le_z, lt_z, quot_z, rem_z}
pub use mathlib.Core.List.{List, [], ◌∷◌}
pub use native.Mathlib.Omega.{arith}
pub use Order.{le_or_lt}
pub use Ring.{ring, terms}
pub use Linear.{lin, lin₀, ◌&◌, facts}
pub use Products.{prod, Within-mul}
pub use Signed.{signed}
