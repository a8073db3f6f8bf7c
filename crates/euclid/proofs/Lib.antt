-- The laws, in the order in which they rest on each other. Other crates go by Euclid and Coefficient.

-- the remainders one by one (`next`)
pub mod Remainders
-- the early end loses nothing (`early_end_lem`); the count, one division at a time (`last_division`, `one_division`)
pub mod EarlyEnd
-- the factor is the greatest common divisor (`factor_is_gcd`)
pub mod FactorIsGcd
-- the test `is_coefficient` says what the sentence says (`Coefficient-iff`)
pub mod Coefficient
-- what the entry answers (`given`)
pub mod Answers
-- Euclid's algorithm with a cofactor: what holds of its numbers (`Inv`), and what callers go by (`gcd_range`, `cofactor_range`)
pub mod Euclid
-- a turn of the loop, with its count (`Turn`)
pub mod Turns
