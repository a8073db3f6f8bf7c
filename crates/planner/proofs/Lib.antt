-- The laws that the proofs of the functions go by.

-- rows of one width, one behind the other: `laid`, `next_row`
pub mod ReportRows
-- the rows of a map: `none`, `more`
pub mod MapRows
-- the rows of a sheet
pub mod SheetRows
-- the number that is chosen for a variable is within the range: `number_Within`
pub mod ChosenNumber
-- weights times numbers, added up in 64 bits
pub mod WeightedSums
-- what is found in the arrays is what the model finds: `agree`
pub mod ArraysAgree
-- what the families of a job say of the arrays: the first component without a solution (`found`, `full`), and what is written
-- (`objective-best`, `area_best`)
pub mod StateOfJob
-- what the pass over the equations says of the arrays: the map in them is the definition's (`map_is`)
pub mod StructureOfJob
-- what verdict and areas of the definitions promise: `promised`
pub mod Promised
-- two answers that meet the contract of `plan` for one call are equal: `determined`
pub mod Determined
