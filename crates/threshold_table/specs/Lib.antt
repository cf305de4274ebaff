-- The thresholds, quarter by quarter.
pub mod Quarters
