-- The rows of a host (§18).
--     Rows         a state as twelve words, an answer as two; a dot and a wide number in a row
--     Tickets      a ticket as eight words
--     Records      a batch's records as words, seven each
--     Answers      what a call writes and returns, by its reply
pub mod Rows
pub mod Tickets
pub mod Records
pub mod Answers
