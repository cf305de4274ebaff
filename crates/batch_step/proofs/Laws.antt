-- Laws of the steps.
--     Records      from the single operations to the records of a batch
--     Runs         the run of all records
pub mod Records
pub mod Runs
