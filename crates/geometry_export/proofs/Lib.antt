-- Tools that the functions' proofs share.
--     Paths        a walk along a row's first 255 children
pub mod Paths
