-- The lent rows (§2).
--     Nodes        a node's two words as one value
--     Rows         which numbers a row has words for, and the rows after a store
--     Lent         the rows as one value
--     Chains       a chain of places, walked
--     Lengths      the test of the lengths
--     Fresh        the words of the fresh tree
pub mod Nodes
pub mod Rows
pub mod Lent
pub mod Chains
pub mod Lengths
pub mod Fresh
