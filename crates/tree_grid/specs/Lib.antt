-- The window grid report without the check.
--     Counts       what is added to the words of a row
--     Passes       what a rectangle, and all places, add to the counts of a grid's windows
--     Answers      what the report leaves, by its rule
pub mod Counts
pub mod Passes
pub mod Answers
