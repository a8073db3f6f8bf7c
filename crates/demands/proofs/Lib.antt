-- What the variants of the planner rest on.

-- a job without a whole header, turned away early: `early_turns_away`, `early_gives_fits`
pub mod Carried
