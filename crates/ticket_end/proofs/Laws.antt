-- Laws of the input's end.
--     End          by the phase, and by whether a line is left
pub mod End
