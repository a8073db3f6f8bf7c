-- The laws of runs, in the order in which they rest on each other. Other crates go by MeetAndCarry, compute with the model
-- that Model is about, and find in Refusals when a working refuses.

-- a run's numbers as a list and by their places (`in-numbers`, `Rising-numbers`); a run in its one form is determined by its
-- members (`by_members`)
pub mod Members
-- arithmetic progressions over ℤ
pub mod Progressions
-- a run as the part of a residue class from its first to its last number (`in_span`), and how large it is (`sizes`)
pub mod ClassOfRun
-- what is common to two intervals
pub mod Intervals
-- the part of a residue class in an interval as a run (`is_clip`)
pub mod ClassInInterval
-- the first number of a class and a count of those that follow it, as far as they lie within the range (`counted_run_iff`, `all_in_range`)
pub mod CountedClass
-- the solutions of a congruence, from the greatest common divisor (`every`), or that there is none (`nothing`)
pub mod CongruenceSolutions
-- the period of a congruence's solutions
pub mod SolutionPeriod
-- what a value of `Partners` carries
mod Solved
-- how large the numbers of carrying are
pub mod CarryWidths
-- meeting by the method is the definition: by members (`is_meet`), and by a congruence (`met`)
pub mod MeetMethod
-- the numbers of the range that pass a test, by members (`is_passing`)
pub mod Passing
-- what a run is carried to, by its members (`is_carry`)
pub mod CarryMembers
-- the p with a partner at the places of a class (`partner_at`)
pub mod PartnerClass
-- carrying by the method is the definition (`carried`), for a above 0; any equation is made one (`upright-IsCarry`)
pub mod CarryMethod
-- the model of the workings is the definitions: `meet_model_lem`, `carry_model_lem`
pub mod Model
-- the members of a meet (`in_meet`) and of what is carried (`in_carry`), each in its one form; back and forth between two runs
-- (`in_joined`, `back_and_forth`)
pub mod MeetAndCarry
-- the tests on which a working refuses say what the sentences say (`OneForm-iff`, `in_limits_iff`), and it refuses just there
-- (`meeting_unless`, `carrying_unless`)
pub mod Refusals
-- the laws of meeting: of two and three runs, of the full range and of empty, of a list in any order and grouping (`meet_laws`)
pub mod MeetLaws
-- the same of the working, on any arguments (`meeting_laws`)
pub mod MeetingLaws
-- statements that are nearly laws, and where they fail
pub mod AlmostLaws
-- document 01's jobs with one equation, through the definitions: `small_jobs`, `full_job`
pub mod Examples
