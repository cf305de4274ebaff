-- A grid of windows as definitions over ℤ; `§` is a paragraph of docs/SPECIFICATION.md.
--     Grids        its windows as rectangles, and which grids are in range
--     Spans        the windows that a rectangle meets on each axis, by floor divisions of natural numbers
pub mod Grids
pub mod Spans
