-- What the contracts over runs cite. Read in this order; proofs/Lib.antt has the laws.

-- a run, its numbers, its one form
pub mod Run
-- the run of a rising list; meeting, two runs or a list of them, and carrying by exhaustive search
pub mod Search
-- what the two workings answer, and when they refuse
pub mod Workings
-- a list of runs met two at a time, in any grouping
pub mod Groupings
-- the laws of meeting, as statements
pub mod MeetLaws
-- how large the numbers of a congruence may be
pub mod Reach
-- the method: residue classes, intervals, a congruence (what inner functions promise)
pub mod Method
-- meeting and carrying as functions that compute (nothing here has to be believed)
pub mod Model
-- the definitions and the method at worked values
pub mod Values
