-- Lines as bytes.
--     Text         numbers, fields and answers by their text
--     Reading      what it means to read a part of a line, and to put bytes into a row
--     Lines        the lines of calls: THE STATEMENT of what a line is
--     Grids        the line of a grid
--     Report       the report's text
pub mod Text
pub mod Reading
pub mod Lines
pub mod Grids
pub mod Report
