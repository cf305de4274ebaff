-- What a program answers to the lines of a ticket (§13.5, §13.6, §19.5).
--     Ticket       a later line
--     First        the first line
--     Report       a later line of gridreport
--     Room         room for the longest answer
--     Workspace    the rows of a program as one value
--     Turns        a line by the phase of the program, and lines one after another
pub mod Ticket
pub mod First
pub mod Report
pub mod Room
pub mod Workspace
pub mod Turns
