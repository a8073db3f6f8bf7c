-- What the contracts cite. Read in this order.

-- what the planner's answer says
pub mod Outcome
-- the areas of a call, and which of them are lent
pub mod Lending
-- the choice, and what is found
pub mod Choice
pub mod Chosen
-- how the job hangs together, for the map
pub mod Mapping
-- whether the areas are long enough, and the map written
pub mod Survey
