-- Laws of the lent rows.
--     Stores       what is read after a store
--     Lent         rows that are the same loans
--     Chains       a chain, walked
--     Lengths      what refusal 1's test says
--     Fresh        the words that are written for the fresh tree are its layout
pub mod Stores
pub mod Lent
pub mod Chains
pub mod Lengths
pub mod Fresh
