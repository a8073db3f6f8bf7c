-- Lists of whole numbers and of lists: what the definitions of runs, fit-outs and the best are made of.
-- Nothing here is about runs or jobs. Read in this order; proofs/ has the laws of each, under the same names.

pub mod Members
pub mod Rising
pub mod Keep
pub mod Permutation
pub mod Table
pub mod Range
pub mod Lexicographic
pub mod Best
pub mod Sums
-- all of them at worked values
pub mod Values
