-- Tools that the functions' proofs share.
--     Fields       a signed number is what the machine reads back from its bits
pub mod Fields
pub mod Laws
