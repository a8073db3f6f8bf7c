-- The laws of what a working answers.

-- a working gives its value where its test passes, and refuses elsewhere (`gives_where`, `refuses_where`, `refused_unless`); a test
-- made of two (`and_iff`)
pub mod Answers
