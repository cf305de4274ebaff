-- Input cut into lines, and a reader that keeps a part of a line between its pieces; `§` is a paragraph of docs/SPECIFICATION.md.
--     Cut          THE LINES of an input; the reader, byte by byte
--     Steps        what the functions leave of the row that holds the part kept
pub mod Cut
pub mod Steps
