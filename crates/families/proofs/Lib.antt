-- The theorems, in the order in which they rest on each other. What they say to a reader stands in InvariantHolds, ModelIsExact,
-- BestOfJob, PlanIsBest, ModelFindings, MarkedJobs and SheetFamilies; the proofs of `solver` and `planner` also go by the steps
-- before them.

-- lines that rise, fall or are level
pub mod LinearFunctions
-- a variable's run in its family, upwards and downwards: `in_upward`, `upward_form`
pub mod FamilyRuns
-- where the numbers of one run and their partners stand in another: exact quotients (`indexed`, `Partner-Indexed`)
pub mod ExactQuotients
-- an equation between the runs of two families: the first number and the stride stand in each of them at exact quotients
-- (`left`, `right`)
pub mod JoinedRuns
-- part of a family, the members at some of its indices, is again one: `through_at`, `through_form`
pub mod Subfamily
-- an equation inside a component leaves all, one index or none: `cycle_leaves`
pub mod CycleStep
-- the pairs of indices at which an equation holds (`Pairs`), and that they are turned so that the lowest variable rises (`directed_is`)
pub mod JoinPairs
-- an equation between two components leaves the pairs of members for which it holds (`join-Pairs`), rising (`join_rises`)
pub mod JoinStep
-- what one equation leaves, in one form for both: `kept_is`
pub mod OneEquation
-- the components' labels, one equation more: `next_label`, `relabelled`
pub mod Labels
-- one equation more, in general: `advance`
pub mod InvariantStep
-- the two ways in which an equation changes the runs: `redundant`, `changed`
pub mod StateStep
-- before any equation: `begins`
pub mod StartState
-- **the family invariant** after any number of equations: `invariant`
pub mod InvariantHolds
-- the solutions of a component, in order, are the members of its family: `solutions-listed`
pub mod SolutionsAreMembers
-- how large the numbers of a family are
pub mod FamilySizes
-- the model ends in the definitions (`exact`): the solutions of each component **are** base + step·k (`are_families`), none exactly
-- when the family is empty (`empty_iff`)
pub mod ModelIsExact
-- which member is chosen, by the slope: `choice_up`, `choice_down`, `choice_level`
pub mod Choice
-- the best of one component: the last of its family where the slope is 0 or more, and the first elsewhere (`choice-Optimal`,
-- `best-member`, `chosen_is`)
pub mod BestOfComponent
-- a component with a slope other than 0, or with one solution, has one best and one chosen k, whatever the tie-break: `one_best`,
-- `one_choice`
pub mod OneBest
-- the best of each component, put together, is the best of the job: `objective_parts`, `assembled-Optimal`, **`plan_Optimal`**,
-- `plan_best`; there is a solution exactly when no component is empty (`solvable_iff`)
pub mod BestOfJob
-- the best of a lawful job, by what the model ends in: `lawful_Optimal`, `lawful_best`
pub mod PlanIsBest
-- what the model finds is what the definitions find (`findings_by_lem`), and so are its verdict and sheet (`verdict_by_lem`, `areas_by_lem`)
pub mod ModelFindings
-- the model at worked jobs: `marked`, `fitted_model`, `sought_model`
pub mod ModelVectors
-- document 01's ten jobs marked *: bytes in, verdict and whole sheet out, for every area (`marked_jobs_lem`, `marked_short`)
pub mod MarkedJobs
-- what a planned sheet says of the components (`families_on`), and so the second demand (`definitions_give_fits`)
pub mod SheetFamilies
