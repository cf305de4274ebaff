-- Laws of the public calls.
--     Pattern      what every call does once the check has answered
--     Calls        each call obeys its statement
--     Make         and so does make
--     Patch        and so does the patch
pub mod Pattern
pub mod Calls
pub mod Make
pub mod Patch
