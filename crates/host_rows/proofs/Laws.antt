-- Laws of the rows.
--     Rows         a state and an answer as rows
--     Tickets      a ticket as a row, both ways
pub mod Rows
pub mod Tickets
