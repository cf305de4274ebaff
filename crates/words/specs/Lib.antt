-- Numbers as words.
--     Words        the words of a number, and the number of words
pub mod Words
