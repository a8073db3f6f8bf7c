-- The laws of jobs, in the order in which they rest on each other. Other crates go by Solutions, Components and Assembly, and
-- find in Faults when a job is turned away and in Lawful that one that is not is lawful.

-- the rows of the job that bytes say: `variable_of`, `equation_of`
pub mod JobOf
-- an equation in normal form: `normal-value`, `normal-home`, `Binary-iff`
pub mod NormalForm
-- the first member of a list of which a statement holds: `First-iff`
pub mod FirstOf
-- the checks of the header, one after the other
pub mod HeaderChecks
-- the checks of the equations' rows, row by row
pub mod RowChecks
-- what a pass over rows answers is their first fault: `pass_fault`
pub mod FirstRow
-- two variables are joined exactly when their lowest joined variables are the same (`Joined-iff`, `lowest_least`); an equation
-- joins two sets exactly when they differ (`Joins-iff`); components are numbered in their order (`component_at`, `component_lead`)
pub mod Components
-- components by document 01's sentence, and by the functions that compute: `IsLead-iff`, `component_numbers`; there is one number
-- of them and one numbering (`groups_are`, `group_is`)
pub mod Numbering
-- an equation's kind is 1 exactly when it joins (`kind-Joins`); how often a variable is named, equation by equation
pub mod Structure
-- a reason is reported exactly when its rule is broken and none before it (`reported_iff`), a job accepted exactly when no rule is
-- (`sound_iff`)
pub mod Faults
-- a job that no check turns away is lawful: `lawful`
pub mod Lawful
-- the checks of a job, one after the other, and that one they all let through is lawful
pub mod JobChecks
-- the checks of a job's amendments, pass by pass
pub mod AmendmentChecks
-- a job with other bounds: what of it stays
pub mod WithBounds
-- amendment sheets that keep their rules: the last for a variable is in force (`last_in_force`), and no other (`one_in_force`)
pub mod AmendmentsInForce
-- what the passes over the sheets mark, sheet by sheet
pub mod SheetMarks
-- the job as amended: at most one sheet in force for each variable (`at_most_one`), whose bounds it has (`with_amendment`), or its row's
-- (`without_amendment`); it is lawful (`lawful_amended`), and without amendments the job itself (`amended_by_none`)
pub mod AmendedJob
-- the tie-break is a strict total order: `Earlier-asym`, `Earlier-trans`, `Earlier-compared`; solutions in its order (`Rising-earliest_first`)
pub mod TieBreak
-- the exhaustive list has just the solutions (`in-solutions`), rising; "better" is a strict total order (`Better-trans`,
-- `Better-compared`); the best is a solution and better than every other, and nothing else is (`best_is`, `best_only`)
pub mod Solutions
-- from components to the whole job and back: `solves_iff`, `part_IsSolution`, `assembled-IsSolution`; the job has a solution exactly
-- when each component has one (`some_iff`)
pub mod Assembly
-- equations that join no two counts, in document 02's words: they say coefficient · home = c (`value_is`); 0 = c with c not 0 leaves its
-- group without a fit (`leaves_none`), and 0 = 0 leaves everything (`always`)
pub mod UnaryEquations
-- where the best stands among the solutions: `chosen_at`
pub mod PlaceOfBest
-- what no tie-break moves: bases, steps, fits, gains and worth are the same by any order among equals (`any_order`), and so by
-- document 01's (`lower_first`)
pub mod AnyTieBreak
-- where the fields of a sheet stand, and that they read back (`sheet_of_back`); findings that agree are laid out alike
-- (`same_layout`)
pub mod SheetFields
-- where the fields of a map stand, and that they show how the job hangs together (`map_on`); structures that agree are laid out alike
-- (`same_map`)
pub mod MapFields
-- jobs with the same equations have one map: `map_same`
pub mod SameEquations
-- every area after a call, case by case: `if_planned`, `if_refused`, `past_sheet`, `past_map`
pub mod AreasAfter
-- the definitions keep the demands (`turns_away`, `cannot_be_bettered`, `shows_map`; of the second all but the families, `gives_fits`)
pub mod DemandsHold
-- verdict and areas, case by case, from the first fault of a call: `as_broken`, `as_fitting`
pub mod Outcomes
-- a call without amendments is answered as before there were any: `verdict_before_lem`, `areas_before_lem`
pub mod NoAmendments
-- of lists longer than any lawful job, or any lawful amendments, the first part is answered as the whole: `longer_same`
pub mod LongInput
-- the sham planners of document 01, each refused by the demand that is named beside it
pub mod Shams
-- job M by the sentences on components: `groups_of_m`, `leads_of_m`, `fits_of_m`
pub mod Examples
