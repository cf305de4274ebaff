-- Insert: what its contracts say of each step, in the order of the code.
--     FreeGroups   the walk along the free groups
--     SplitsNeeded the splits needed, counted without a store
--     Deal, LeafSplit      the deal of a chain, the split of a leaf
--     SplitDown    the splits on the way down
--     Push         the push of the dot
--     InsertAt     the insert that is not refused
--     Landing      where an insert ends, told before anything is stored
-- Laws has the proofs.
pub mod FreeGroups
pub mod SplitsNeeded
pub mod Deal
pub mod LeafSplit
pub mod SplitDown
pub mod Push
pub mod InsertAt
pub mod Landing
