-- Laws of lines and of their reading.
--     Cut          any pieces, read one after another, give the lines of their whole
--     Steps        what the functions' proofs cite, and what an answer means to the reader
pub mod Cut
pub mod Steps
