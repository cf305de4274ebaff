-- What the walks of a query (§8) and over the leaves (§9) ask and leave.
--     Walks        the query's walk of a chain, a node and a group
--     Leaves       the walk over the leaves of a node and a group
--     Answers      what the walk of the whole tree leaves, and what a call leaves
pub mod Walks
pub mod Leaves
pub mod Answers
