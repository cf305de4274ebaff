-- A tint patch on the tree (§20): what it needs, counted before the first store, and its dots, laid one after another.
--     Cells        the splits at a cell and below it
--     Counts       what the count of a patch's splits asks and tells
--     Goes         whether a patch can be laid
--     Laid         the dots laid so far
pub mod Cells
pub mod Counts
pub mod Goes
pub mod Laid
