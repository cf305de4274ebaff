-- Laws of the ticket's answers.
--     Replies      a call's answer, case by case, and the line that was written for it
--     Lines        what a call says that its line does not
--     Report       a later line of gridreport, case by case; the lines of its report
--     Fixed        the statements fix every word and every byte
--     Workspace    a workspace of the same loans
--     Turns        a turn, case by case, and lines one after another
--     TurnsFixed   what a turn leaves open
pub mod Replies
pub mod Lines
pub mod Report
pub mod Fixed
pub mod Turns
pub mod TurnsFixed
pub mod Workspace
