-- Laws of the grid report without the check.
--     Counts       sums added to a row: word by word, row by row of windows
--     Rects        one rectangle
--     Places       all places, with the zero rectangles set apart
--     Reports      the row begins with the counts, and the total is the rule's
pub mod Counts
pub mod Rects
pub mod Places
pub mod Reports
