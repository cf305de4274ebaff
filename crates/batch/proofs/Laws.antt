-- Laws of the batch.
--     Runs         from the check to the last record, and the contract
pub mod Runs
