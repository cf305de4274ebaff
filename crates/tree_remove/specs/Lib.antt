-- Remove: what its contracts say.
--     Search       the search along a leaf's chain, and the dot that it finds taken out
-- Laws has the proofs.
pub mod Search
