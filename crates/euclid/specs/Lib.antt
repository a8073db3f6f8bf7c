-- What the contracts over two numbers and their factor cite. Read in this order; proofs/Lib.antt has the laws.

-- the remainders of two sizes, the factor, the number of divisions: down to 0, and to the first that is 0 or 1
pub mod Remainders
-- that the early end loses nothing, as statements
pub mod EarlyEnd
-- a number of a nonzero coefficient's size
pub mod Coefficient
-- what the entry answers
pub mod CommonDivisor
-- what inner callers go by: the greatest common divisor with a cofactor
pub mod Factor
-- the definitions at worked values
pub mod Values
