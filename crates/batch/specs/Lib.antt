-- What a batch answers (§10).
--     Answers      its refusal as a whole, how many records it carries out
pub mod Answers
