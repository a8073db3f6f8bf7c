-- What the contracts over whole numbers cite. Read in this order; proofs/Lib.antt has the laws.

-- "within ±n"
pub mod Within
-- "x = y" as a test
pub mod Equal
-- division rounded down
pub mod Floor
-- divisibility, congruence, the greatest common divisor
pub mod Divides
-- the division working: its limits and its answer
pub mod Division
-- all of them at worked values
pub mod Values
