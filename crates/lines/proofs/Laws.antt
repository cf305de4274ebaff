-- Laws of text and of its reading.
--     Digits       decimal numbers, printed and read
--     Fields       fields, found and read one after another
--     Lines        the lines of calls
--     Texts        no text is the text of two
--     Grids        the line of a grid, which is no call's
--     Rows         bytes put into a row: digits, fields, answers
--     Report       the report's lines, put one after another
pub mod Digits
pub mod Fields
pub mod Lines
pub mod Texts
pub mod Grids
pub mod Rows
pub mod Report
