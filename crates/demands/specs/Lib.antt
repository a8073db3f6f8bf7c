-- What the variants of the planner ask of a sheet before they write a byte of it again.
pub mod Rewrite
