-- What the contracts of the solver cite. Read in this order.

-- what the arrays of the state say
pub mod StateArrays
-- what is promised of the state: each variable's component and family
pub mod Families
-- the variables' rows in arrays, and what the variables begin with
pub mod VariableArrays
-- components as a list of labels
pub mod Labels
-- from where to where the variables of a component lie
pub mod Spans
-- what is promised of the pass over the equations: all that the map shows
pub mod Structured
-- the runs of all variables while equations are taken in
pub mod Runs
-- what the program makes of one equation
pub mod Steps
-- how large the numbers are
pub mod Widths
