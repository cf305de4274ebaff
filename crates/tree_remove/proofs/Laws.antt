-- Laws of remove, in the order of the code.
--     Search       the loop of the search; the dot that it finds taken out
--     Found        where a dot with an id stands in its chain
--     Stores       what the stores ask, and the memory that they leave
--     Shapes       they leave the removed shape
--     Answers      the two answers, from what the code has looked up
pub mod Search
pub mod Found
pub mod Stores
pub mod Shapes
pub mod Answers
