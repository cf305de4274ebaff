-- Laws of the reading calls.
--     Found        one walk after another; no more is found than there is
--     Chains       the loop over a chain
--     Nodes        a node: its chain, or its group
--     Groups       the loop over a group's children
--     Queries      the walk of a whole tree, and the query's answer
--     LeafNodes    over the leaves: a node, its own numbers or its group
--     LeafGroups   over the leaves: a group, child by child
--     Leaves       over the leaves of a whole tree, and the call's answer
pub mod Found
pub mod Chains
pub mod Nodes
pub mod Groups
pub mod Queries
pub mod LeafNodes
pub mod LeafGroups
pub mod Leaves
