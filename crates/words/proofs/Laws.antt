-- Laws of numbers as words.
--     Words        both ways
pub mod Words
