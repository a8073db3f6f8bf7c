-- What the theorems say, and the model. Read in this order.

-- the solutions of a component as a family, and the choice in it
pub mod Family
-- a variable's run in the family of its component, and where its numbers stand in another
pub mod FamilyRun
-- the planner's steps as functions on lists
pub mod Model
-- what is known of the model's state after some of the equations
pub mod Invariant
-- the choice and the sheet as functions on lists
pub mod ModelFindings
-- small jobs through the model, and its pieces at worked values
pub mod Vectors
