-- What the walk of all (§8.7) asks and leaves.
--     Walks        of a chain, a node, and of the whole tree
pub mod Walks
