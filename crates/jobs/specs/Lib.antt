-- What a job is, when it is turned away, what a plan of it is, and what is demanded of one. Read in this order. To be believed is
-- all of it but the decisions in Decide and Faults, Lawful, FirstRow, AmendmentPasses, JobBytes, and Vectors, MapVectors, UnaryVectors
-- and AmendmentVectors, which are theorems.

-- all that a call is given
pub mod Call
-- the bytes of a job as variables and equations
pub mod Job
-- a job with other bounds
pub mod Bounds
-- statements that can be decided
pub mod Decide
-- amendment sheets: which are in force, and the job as amended
pub mod Amendments
-- which equations join two counts, and which group any other belongs to
pub mod NormalForm
-- of two fit-outs of equal worth, which comes first
pub mod TieBreak
-- fit-outs, their worth, and the best of them
pub mod Solution
-- groups
pub mod Component
-- what is read off the fit-outs of one group
pub mod Family
-- all that a report shows
pub mod Findings
-- how a job hangs together
pub mod Structure
-- where the parts of a sheet stand, and those of a map
pub mod SheetOffsets
pub mod MapOffsets
-- the table of reasons, and its order
pub mod ReasonTable
-- the first reason that applies, and the answer of the job check
pub mod Faults
-- the outcome of a plan
pub mod Verdict
-- the layout of the sheet, and of the map
pub mod SheetLayout
pub mod MapLayout
-- every area after a call
pub mod AreasAfter
-- the demands
pub mod Demands
-- a job that the table does not turn away, as inner functions ask for it
pub mod Lawful
-- what a pass over rows answers, and what is known of amendments meanwhile, likewise
pub mod FirstRow
pub mod AmendmentPasses
-- the bytes of small jobs and maps
pub mod JobBytes
-- small jobs through all of them, and calls that lend a map
pub mod Vectors
pub mod MapVectors
-- and jobs with equations that join no two counts
pub mod UnaryVectors
-- and jobs with amendments
pub mod AmendmentVectors
