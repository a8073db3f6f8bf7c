-- What a contract that refuses cites.

-- what a reason says in document 01's numbers
pub mod Numbers
-- what a working answers
pub mod Answer
-- both at worked values
pub mod Values
