-- Laws of a grid of windows.
--     Windows      the windows that a rectangle intersects are those of two spans
--     Trials       spans worked out
--     Widths       what the code works out fits its machine types
pub mod Windows
pub mod Trials
pub mod Widths
