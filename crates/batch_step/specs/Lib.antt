-- The steps of a batch.
--     Steps        what the check of a batch and one record leave
--     Runs         what all records leave
pub mod Steps
pub mod Runs
