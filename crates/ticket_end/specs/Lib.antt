-- What a program does with a ticket at the input's end.
--     End          the line that is left over, and the phase
pub mod End
