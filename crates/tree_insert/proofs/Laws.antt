-- Laws of insert, in the order of the code.
--     FreeGroups   the walk along the free groups
--     Bounds       the dots of a chain within the bounds of a node
--     SplitsNeeded the count of the splits
--     Deal         the loop of the deal
--     LeafSplit    the split of a leaf
--     SplitDown    a turn of the splits on the way down
--     Leaf         the leaf that the dot routes to: its splits can be counted, and the insert begins there
--     Push         the push of the dot
--     InsertAt     the stores leave the inserted shape
--     Refusals     the refusals in their order, and the insert that is not refused
--     Answers      what insert, ask and place leave, by the landing
pub mod FreeGroups
pub mod Bounds
pub mod SplitsNeeded
pub mod Deal
pub mod LeafSplit
pub mod SplitDown
pub mod Leaf
pub mod Push
pub mod InsertAt
pub mod Refusals
pub mod Answers
