-- A patch by itself as definitions; `§` is a paragraph of docs/SPECIFICATION.md.
--     Rows         the dots of a row
--     Sums         the dots of a tile, summed
--     Counts       the dots of a patch within bounds
pub mod Rows
pub mod Sums
pub mod Counts
