-- Laws of trees in the memory: each operation's stores keep the memory a tree, and make it the tree that the model says.
-- In the memory as functions:
--     Frames       a chain, a tree, in a memory that agrees where they stand
--     Paths        a subtree at the end of a path, and its replacement
--     Stored       no node twice; from a world that holds a shape to its memory, and back
--     Pushes       a dot is pushed on a leaf
--     Splits       the split of a leaf, with the deal
--     Unlinks      a dot taken out of its chain, its place freed
--     Cleanup      the cleanup's walk
-- In the rows:
--     Readings     the rows read as memory; a store into a row
--     Routes       the way of a rectangle to its leaf
--     Descent      the walk down to it
--     Children     joins over the last children of a group
--     Rows         words written to a row, as far as it goes
--     Chains, Leaves, Trees        a chain, a leaf, a tree in the rows
--     Operations   the exit of an operation
pub mod Frames
pub mod Paths
pub mod Stored
pub mod Pushes
pub mod Splits
pub mod Unlinks
pub mod Cleanup
pub mod Readings
pub mod Routes
pub mod Descent
pub mod Children
pub mod Rows
pub mod Chains
pub mod Leaves
pub mod Trees
pub mod Operations
