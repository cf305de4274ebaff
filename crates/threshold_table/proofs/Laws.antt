-- Laws of the thresholds.
--     Quarters     quarter by quarter
pub mod Quarters
