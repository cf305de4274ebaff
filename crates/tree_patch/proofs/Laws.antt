-- Laws of a patch on the tree, in the order of the code.
-- What it needs:
--     FreeGroups   the walk along the free groups
--     Bounds       the rectangles of a list within the bounds of a child
--     Splits       the splits at a cell and below it
--     Roots        those of a whole tree
--     Cells        the cells below one
--     CellCounts   the count at a cell
--     GroupCounts  the count of a group, child by child
--     Patches      the count of the whole tree
--     Goes         the tests together: whether it can be laid
-- Its dots, laid:
--     Order        those before a column of a row
--     Lay          one dot more
--     Rows         column after column, row after row
--     Answers      the answer by the rule
pub mod FreeGroups
pub mod Bounds
pub mod Splits
pub mod Roots
pub mod Cells
pub mod CellCounts
pub mod GroupCounts
pub mod Patches
pub mod Goes
pub mod Order
pub mod Lay
pub mod Rows
pub mod Answers
