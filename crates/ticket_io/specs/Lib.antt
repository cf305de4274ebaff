-- What a program does with the bytes of a ticket.
--     Reading      the bytes of a read, and of a whole input
pub mod Reading
