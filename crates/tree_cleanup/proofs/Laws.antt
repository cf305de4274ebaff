-- Laws of the cleanup.
--     Nodes        the walk of a node: a leaf stays, a branch with five empty children is turned, any other hands its group on
--     Groups       the walk of a group: the last child, then the others
--     EmptyBranches        the search finds a branch with five empty children just where a cleanup says yes
--     Roots        the cleanup of a memory that is a tree: what it leaves, for each of its answers
pub mod Nodes
pub mod Groups
pub mod EmptyBranches
pub mod Roots
