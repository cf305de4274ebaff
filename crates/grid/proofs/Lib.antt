-- Tools that the functions' proofs share.
--     Fields       the numbers of one axis are what the machine reads back from their bits
pub mod Fields
pub mod Laws
