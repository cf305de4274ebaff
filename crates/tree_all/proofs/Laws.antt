-- Laws of the walk of all.
--     Rows         ids written one after another
--     Chains       the loop over a chain
--     Nodes        a node: its chain, or its group
--     Groups       a group, child by child
--     Answers      the whole tree, and the answer
pub mod Rows
pub mod Chains
pub mod Nodes
pub mod Groups
pub mod Answers
