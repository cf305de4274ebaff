-- The query and all without the check.
--     Answers      what they leave in the rows that they are lent
pub mod Answers
