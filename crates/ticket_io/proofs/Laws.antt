-- Laws of the reads.
--     Reading      reads one after another
pub mod Reading
