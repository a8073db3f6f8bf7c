-- The laws that the proofs of the functions go by.

-- whether an equation joins two sets: its labels tell just that (`Joins-told`)
pub mod JoinTest
-- the lowest variables of the components, one after the other
pub mod LowestVariables
-- 64 bits hold what is made of the numbers of a family
pub mod In64Bits
-- how large the numbers are through which an equation between two families goes
pub mod JoinWidths
-- what stays of the runs of one component, and of two
pub mod ReducedRuns
-- the arrays follow the model, equation by equation (`Follows`, `Follows-reduced`), to the families (`Follows-end`)
pub mod CodeFollowsModel
-- the rows of the variables, with amendments
pub mod RowsInForce
-- the rows of a lawful job
pub mod LawfulRows
-- the pass over the equations, one at a time: `Through`, `begins`, `onward`
pub mod StructurePass
-- the arrays follow the model, for bytes and bounds
pub mod FollowsWithBounds
-- the labels of a job that is read are the definition's (`label_is`), and so many components there are (`counted`)
pub mod LabelsOfJob
