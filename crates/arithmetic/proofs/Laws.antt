-- Laws of integers and of tests.
--     Tests        a Bool by its two cases
--     Linear       linear facts of integers by omega; what fits a width
--     Divisions    one floor division, of integers
--     Cases        a law of four Bools or of the numbers below a bound, by a test that computes over all of them
--     Bits         a bit, read
pub mod Tests
pub mod Linear
pub mod Divisions
pub mod Cases
pub mod Bits
