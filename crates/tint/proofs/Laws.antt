-- Laws of a patch by itself.
--     Rows         the search for the next dot of a row
--     Sums         the dots of a tile, summed
--     Counts       the dots in a span of columns and a span of rows
--     Corners      the corners on an axis that lie below a limit, or within bounds
--     Filters      how many elements a filter keeps
--     Units        one-unit dots: upright; acceptable, by bounds
--     Within       the dots of a patch within bounds
pub mod Rows
pub mod Sums
pub mod Counts
pub mod Corners
pub mod Filters
pub mod Units
pub mod Within
