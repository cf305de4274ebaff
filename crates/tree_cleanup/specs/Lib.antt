-- What the cleanup asks of the words and leaves.
--     Walks        the walk of a node and of a group: what each asks, and what it leaves
--     EmptyBranches        the search for a branch whose five children are empty
--     Answers      CleanedUp, the contract of the cleanup
-- Laws has the proofs.
pub mod Walks
pub mod EmptyBranches
pub mod Answers
