-- The exported calls on rows (§18).
--     Exports      what each exported call leaves, by the model's statement
pub mod Exports
