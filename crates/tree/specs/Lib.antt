-- What the operations' contracts say of the memory, as functions of a node's or a place's number, and of the rows that the code reads and stores in.
--     Operations   what an operation without the check asks and leaves
--     Routes       the way of a rectangle to its leaf
--     Chains       a chain in the rows
--     Trees        a tree in the rows, and its nodes
--     Paths        a subtree at the end of a path
--     Stores       single stores into the memory
--     Stored       what the whole memory holds
--     Splits       the stores of a split
--     Cleanup      the stores of the cleanup's walk
-- Laws has the proofs.
pub mod Operations
pub mod Routes
pub mod Chains
pub mod Trees
pub mod Paths
pub mod Stores
pub mod Stored
pub mod Splits
pub mod Cleanup
